-- `plan_slot_tests::later::ten_stage` meets its contract. The table holds the positions of the stage before while the slots are asked for.
-- Assumes nothing.
use Rattle.plan_slots.specs.Puts.{position_puts}
use Rattle.plan_slots.proofs.PutLaws.{filled_with}
use Rattle.plan_slot_tests.proofs.later.ten_stage.Goals as goal

pub ten_items-requires : goal.ten_items-requires
ten_items-requires c =
    (c.requires.0, filled_with c.args.table.now _ (position_puts c.args.part.now.d.now c.args.part.now.p c.args.s) c.requires.1 c.fill_positions.ensures)
