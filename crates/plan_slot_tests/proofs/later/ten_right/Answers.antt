-- `plan_slot_tests::later::ten_right` meets its contract. One law of SlotTestLaws for each way out.
-- Assumes nothing.
use mathlib.Core.Path.{◌∙◌}
use Rattle.plan_slot_tests.proofs.SlotTestLaws.{ten_empty, ten_looked}
use Rattle.plan_slot_tests.proofs.later.ten_right.Goals as goal

pub returns-then-pin : goal.returns-then-pin
returns-then-pin c =
    ten_empty c.args.part.now.d.now c.args.table.now c.args.part.now.p c.args.s c.args.j _ c.level_slot-pin.ensures c.if-pin.true

pub returns : goal.returns
returns c =
    c.is_some.ensures ∙ ten_looked c.args.part.now.d.now c.args.table.now c.args.part.now.p c.args.s c.args.j _ c.level_slot-pin.ensures c.if-pin.false c.requires.2 _ c.look_up.ensures
