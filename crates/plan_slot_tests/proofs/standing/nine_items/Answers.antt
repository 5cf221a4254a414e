-- `plan_slot_tests::standing::nine_items` meets its contract. Item 0 is a slot of level 0 alone, and the others are asked for after it.
-- Assumes nothing.
use mathlib.Core.Path.{sym, ap, ◌∙◌}
use Rattle.plan_record.specs.Record.{plan_lanes}
use Rattle.plan_record.proofs.RecordLaws.{lanes_range}
use Rattle.plan_slots.specs.Slots.{pin_right, nine_right}
use Rattle.words.specs.Found.{item_of}
use Rattle.plan_slot_tests.proofs.ItemLaws.{item_is, zero_right, zero_fault}
use Rattle.plan_slot_tests.proofs.SlotTestLaws.{nine_zero}
use Rattle.plan_slot_tests.proofs.standing.nine_items.Goals as goal

pub returns-then-pin_right : goal.returns-then-pin_right
returns-then-pin_right c =
    let right = nine_zero c.args.part.now.d.now c.args.part.now.p c.args.s ∙ (sym (c.pin_right.ensures ∙ ap pin_right c.level_slot.ensures) ∙ c.if-pin_right.true) in
    c.nine_later.ensures ∙ ap item_of (zero_right (plan_lanes c.args.part.now.d.now) (nine_right c.args.part.now.d.now c.args.part.now.p) c.args.s (lanes_range c.args.part.now.d.now).0 right)

pub returns : goal.returns
returns c =
    let item = item_is c.args.part.now.d.now c.args.part.now.p c.args.part.now.body c.args.s 0 _ c.args.part.now.of c.item_at.ensures in
    let wrong = nine_zero c.args.part.now.d.now c.args.part.now.p c.args.s ∙ (sym (c.pin_right.ensures ∙ ap pin_right c.level_slot.ensures) ∙ c.if-pin_right.false) in
    ap item_of (zero_fault (plan_lanes c.args.part.now.d.now) (nine_right c.args.part.now.d.now c.args.part.now.p) c.args.s (lanes_range c.args.part.now.d.now).0 c.item_at.result item wrong)
