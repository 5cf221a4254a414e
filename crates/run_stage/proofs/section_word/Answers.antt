-- The section's permutation is cut out of the words.
-- Assumes nothing.
use mathlib.Core.Path.{refl, ap, ◌∙◌}
use Prim.Native.Nat.{◌+◌, ◌*◌}
use native.Mathlib.Omega.{arith}
use Rattle.words.specs.Bit.{bit_at}
use Rattle.run_stage.proofs.StageEndLaws.{cut, entry_cut, entries_cut}
use Rattle.run_stage.proofs.section_word.Goals as goal

pub invariant_of-p : goal.invariant_of-p
invariant_of-p c =
    let n = c.args.part.now.part.script.lanes in
    let p = cut c.args.part.now.part.script.words.now c.section-from.result (c.section-from.result + 16 * n) _ (16 * n) c.section-from.ensures.0 refl (omega arith) in
    record { few = omega (arith, c.args.part.now.part.inside.lanes.most); whole = omega (arith, p.long); entries = entries_cut n c.args.part.now.part.script.words.now _ _ _ p c.requires.0 c.args.part.now.entries }

pub returns : goal.returns
returns c = λ b h.
    let n = c.args.part.now.part.script.lanes in
    let p = cut c.args.part.now.part.script.words.now c.section-from.result (c.section-from.result + 16 * n) _ (16 * n) c.section-from.ensures.0 refl (omega arith) in
    c.gather_word.ensures.each b (omega arith) ∙ ap (bit_at c.args.l.now) (entry_cut n c.args.part.now.part.script.words.now _ _ _ p (32 * c.args.w + b) (omega arith))
