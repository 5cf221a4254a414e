-- `repair::place_at` meets its contract: each way through has its outcome.
-- Assumes nothing.
use mathlib.Core.Path.{sym, ◌∙◌}
use native.Mathlib.Omega.{arith}
use Rattle.std.proofs.lemmas.Result.{err_from_is_err_and}
use Rattle.repair_settle.proofs.EndLaws.{refused_end}
use Rattle.repair.proofs.RepairCodeLaws.{at_24, at_misplaced, at_judged, at_placed}
use Rattle.repair.proofs.place_at.Goals as goal

pub returns-then-not-subtree_empty : goal.returns-then-not-subtree_empty
returns-then-not-subtree_empty c =
    refused_end _ _ _ c.args.slots.now c.args.after.now
    (at_24 c.args.height c.args.gates.now c.args.levels.now c.args.counts.now c.args.slots.now c.args.after.now c.args.level c.args.slot
    c.args.node.0 c.place_of-at.result c.place_of-at.ensures c.subtree_empty.result c.subtree_empty.ensures c.if-not-subtree_empty.true)
    c.nowhere.ensures

pub returns-in_err-judge : goal.returns-in_err-judge
returns-in_err-judge c =
    let p = err_from_is_err_and c.from_residual.result c.from_residual.ensures.1 in
    rw p.1
    (refused_end _ _ _ c.args.slots.now c.args.after.now
    (at_misplaced c.args.height c.args.gates.now c.args.levels.now c.args.counts.now c.args.slots.now c.args.after.now c.args.level c.args.slot
    c.args.node.0 c.place_of-at.result c.place_of-at.ensures c.subtree_empty.result c.subtree_empty.ensures c.if-not-subtree_empty.false _ (sym c.judge.ensures ∙ c.in_err-judge.was))
    p.2)

pub place_node-requires : goal.place_node-requires
place_node-requires c = (
  at_judged c.args.height c.args.gates.now c.args.levels.now c.args.counts.now c.args.slots.now c.args.after.now c.args.level c.args.slot
      c.args.node.0 c.place_of-at.result c.place_of-at.ensures c.subtree_empty.result c.subtree_empty.ensures c.if-not-subtree_empty.false _ (sym c.judge.ensures ∙ c.in_ok-judge.was) c.requires.0,
  record { levels = c.requires.1; level = omega (arith, c.place_of-at.ensures.level, c.requires.2); rooted = c.place_of-at.ensures.rooted; pin = c.requires.4 },
  c.requires.5,
)

pub returns : goal.returns
returns c =
    at_placed c.args.height c.args.gates.now c.args.levels.now c.args.counts.now c.args.slots.now c.args.after.now c.args.level c.args.slot
    c.args.node.0 c.place_of-at.result c.place_of-at.ensures c.subtree_empty.result c.subtree_empty.ensures c.if-not-subtree_empty.false _ (sym c.judge.ensures ∙ c.in_ok-judge.was) _ _ _ c.place_node.ensures
