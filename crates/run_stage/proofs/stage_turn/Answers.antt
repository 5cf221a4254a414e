-- `run_stage::stage_turn` meets its contract: the two parts of the section are cut out of the words, and what gathering and the levels leave is the stage.
-- Assumes nothing.
use mathlib.Core.Path.{◌≡◌, refl, ap}
use Prim.Native.Nat.{ℕ, ◌+◌, ◌*◌}
use native.Mathlib.Omega.{arith}
use Rattle.words.specs.Edition.{levels_for}
use Rattle.run_machine.specs.Part.{section_at}
use Rattle.run_stage.proofs.StageEndLaws.{lane_power, cut, entries_cut, stage_end}
use Rattle.run_stage.proofs.stage_turn.Goals as goal

pub invariant_of-p : goal.invariant_of-p
invariant_of-p c =
    let n = c.args.part.now.part.script.lanes in
    let p = cut c.args.part.now.part.script.words.now c.section-from.result (c.section-from.result + 16 * n) _ (16 * n) c.section-from.ensures.0 refl (omega arith) in
    record { few = omega (arith, c.args.part.now.part.inside.lanes.most); whole = omega (arith, p.long); entries = entries_cut n c.args.part.now.part.script.words.now _ _ _ p (omega (arith, c.requires.0)) c.args.part.now.entries }

pub levels-requires : goal.levels-requires
levels-requires c =
    let n = c.args.part.now.part.script.lanes in
    let (j, is, top) = lane_power n c.args.part.now.part.inside.lanes.edition in
    let t = cut c.args.part.now.part.script.words.now (c.section-from.result + 16 * n) (c.section-from.result + 20 * n) _ (4 * n) refl (omega arith) (omega arith) in
    ((j, is), omega (arith, c.gather.ensures.long), omega (arith, t.long))

pub returns : goal.returns
returns c =
    let n = c.args.part.now.part.script.lanes in
    let W = c.args.part.now.part.script.words.now in
    let at : c.section-from.result ≡ section_at n W c.args.part.now.part.at c.args.k = c.section-from.ensures.0 in
    let p = cut W c.section-from.result (c.section-from.result + 16 * n) _ (16 * n) at refl (omega arith) in
    let t = cut W (c.section-from.result + 16 * n) (c.section-from.result + 20 * n) (section_at n W c.args.part.now.part.at c.args.k + 16 * n) (4 * n) (ap (λ (x : ℕ). x + 16 * n) at) (omega arith) (omega arith) in
    let (j, is, top) = lane_power n c.args.part.now.part.inside.lanes.edition in
    stage_end n W c.args.part.now.part.at c.args.k j is _ _ c.args.l.now _ _ p t (entries_cut n W _ _ _ p (omega (arith, c.requires.0)) c.args.part.now.entries) c.requires.1
    c.gather.ensures (c.levels.ensures j is) (levels_for n) top (λ i. (c.type_inv.l i).fits)
