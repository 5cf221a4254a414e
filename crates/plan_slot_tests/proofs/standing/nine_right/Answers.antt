-- `plan_slot_tests::standing::nine_right` meets its contract. One law of SlotTestLaws for each way out.
-- Assumes nothing.
use mathlib.Core.Path.{ap, ◌∙◌}
use Rattle.plan_slots.specs.Slots.{pin_right}
use Rattle.plan_slot_tests.proofs.SlotTestLaws.{nine_level, nine_position}
use Rattle.plan_slot_tests.proofs.standing.nine_right.Goals as goal

pub returns-then-pin_right : goal.returns-then-pin_right
returns-then-pin_right c =
    c.slot_right.ensures ∙ nine_position c.args.part.now.d.now c.args.part.now.p c.args.s c.args.x c.pin_right.result (c.pin_right.ensures ∙ ap pin_right c.level_slot.ensures) c.if-pin_right.true c.requires.1

pub returns-else-pin_right : goal.returns-else-pin_right
returns-else-pin_right c =
    c.if-pin_right.false ∙ nine_level c.args.part.now.d.now c.args.part.now.p c.args.s c.args.x c.pin_right.result (c.pin_right.ensures ∙ ap pin_right c.level_slot.ensures) c.if-pin_right.false
