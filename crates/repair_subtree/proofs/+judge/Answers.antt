-- `judge` meets its contract: one law for each way out (JudgeCode).
-- Assumes nothing.
use mathlib.Core.Path.{◌≡◌, sym, ap, ◌∙◌}
use Prim.Native.Nat.{◌/◌}
use native.Mathlib.Omega.{arith}
use Rattle.gatelist.specs.ListWords.{list_first, list_second}
use Rattle.repair_nodes.specs.Placing.{node_level}
use Rattle.std.specs.Prelude.{Err}
use Rattle.std.specs.Result.{result_ok}
use Rattle.std.proofs.lemmas.Result.{err_from_is_err_and}
use Rattle.words.proofs.FoundLaws.{item_some, item_none}
use Rattle.gatelist.proofs.ListWordLaws.{found_whole}
use Rattle.words.proofs.FoundLaws.{missing_told}
use Rattle.repair_subtree.proofs.JudgeCode.{judge_none, judge_above, judge_last, judge_down, judge_split, judge_missing}
use Rattle.repair_subtree.proofs.+judge.Goals as goal

pub returns-then-levels-node : goal.returns-then-levels-node
returns-then-levels-node t c = judge_none c.args.gates.now c.args.levels.now c.args.h c.args.node.0 c.if-levels-node.true

pub returns-then-h-level : goal.returns-then-h-level
returns-then-h-level t c = judge_above c.args.gates.now c.args.levels.now c.args.h c.args.node.0 c.if-levels-node.false (omega arith)

pub returns-then-h-eq0 : goal.returns-then-h-eq0
returns-then-h-eq0 t c = judge_last c.args.gates.now c.args.levels.now c.args.h c.args.node.0 c.if-levels-node.false (omega arith) c.if-h-eq0.true

pub returns-then-level-h : goal.returns-then-level-h
returns-then-level-h t c =
    judge_down c.args.gates.now c.args.levels.now c.args.h c.args.node.0 c.if-levels-node.false (omega arith) (omega arith) c.judge.result (omega arith) c.judge.ensures

pub first_of-requires : goal.first_of-requires
first_of-requires t c =
    found_whole c.args.gates.now c.requires c.args.node.0 _ (item_some _ _ (sym c.find_in.ensures ∙ (c.ok_or.ensures.ok_part ∙ ap result_ok c.in_ok-g.was)))

pub second_of-requires : goal.second_of-requires
second_of-requires t c =
    found_whole c.args.gates.now c.requires c.args.node.0 _ (item_some _ _ (sym c.find_in.ensures ∙ (c.ok_or.ensures.ok_part ∙ ap result_ok c.in_ok-g.was)))

pub returns : goal.returns
returns t c =
    let g = c.in_ok-g.g in
    let k : node_level c.args.levels.now c.args.node.0 ≡ c.args.h = omega arith in
    let o = item_some _ _ (sym c.find_in.ensures ∙ (c.ok_or.ensures.ok_part ∙ ap result_ok c.in_ok-g.was)) in
    let u : c.pin.result.0 ≡ list_first c.args.gates.now g / 2 = omega (arith, c.pin.ensures, c.first_of.ensures) in
    let v : c.pin-2.result.0 ≡ list_second c.args.gates.now g / 2 = omega (arith, c.pin-2.ensures, c.second_of.ensures) in
    judge_split c.args.gates.now c.args.levels.now c.args.h c.args.node.0 c.if-levels-node.false (omega arith) (omega arith) g c.pin.result.0 c.pin-2.result.0
    c.judge-a.result c.judge-b.result c.worse.result k o u v c.judge-a.ensures c.judge-b.ensures c.worse.ensures

pub returns-in_err-g : goal.returns-in_err-g
returns-in_err-g t c =
    let k : node_level c.args.levels.now c.args.node.0 ≡ c.args.h = omega arith in
    let p = err_from_is_err_and c.from_residual.result c.from_residual.ensures.1 in
    let m = missing_told _ _ _ (sym c.ok_or.ensures.value ∙ c.in_err-g.was) in
    let o = item_none _ (sym c.find_in.ensures ∙ m.0) in
    p.1 ∙ (ap Err (p.2 ∙ sym m.1) ∙ judge_missing c.args.gates.now c.args.levels.now c.args.h c.args.node.0 c.if-levels-node.false (omega arith) (omega arith) k o)
