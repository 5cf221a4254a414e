-- `plan_slot_tests::standing::nine_empty` meets its contract. Both ways out.
-- Assumes nothing.
use mathlib.Core.Path.{◌≡◌, sym, ap, ◌∙◌}
use mathlib.Core.Bool.{Bool, ◌&&◌}
use Prim.Native.Nat.{◌+◌, ◌*◌}
use native.Mathlib.Omega.{arith}
use Rattle.plan_record.specs.Record.{slots_of}
use Rattle.plan_slot_tests.specs.EmptyRuns.{eighth_empty}
use Rattle.plan_slot_tests.proofs.standing.nine_empty.Goals as goal

pub returns-then-eighth_empty : goal.returns-then-eighth_empty
returns-then-eighth_empty c =
    let e : 32 * c.args.part.now.body.lanes + c.args.x ≡ slots_of c.args.part.now.d.now + c.args.x = omega (arith, c.args.part.now.of.lanes) in
    c.eighth_empty-then-eighth_empty.ensures ∙ ap (eighth_empty c.args.part.now.d.now c.args.part.now.p c.args.s) e
    ∙ sym (ap (λ (t : Bool). t && eighth_empty c.args.part.now.d.now c.args.part.now.p c.args.s (slots_of c.args.part.now.d.now + c.args.x)) (sym c.eighth_empty.ensures ∙ c.if-eighth_empty.true))

pub returns-else-eighth_empty : goal.returns-else-eighth_empty
returns-else-eighth_empty c =
    c.if-eighth_empty.false ∙ sym (ap (λ (t : Bool). t && eighth_empty c.args.part.now.d.now c.args.part.now.p c.args.s (slots_of c.args.part.now.d.now + c.args.x)) (sym c.eighth_empty.ensures ∙ c.if-eighth_empty.false))
