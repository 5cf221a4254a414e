-- `plan_slots::tables::list_slot` meets its contract. One law for each kind of slot.
-- Assumes nothing.
use mathlib.Core.Path.{refl}
use native.Mathlib.Omega.{arith}
use Rattle.plan_slots.proofs.ListedLaws.{slot_empty, slot_again, slot_new}
use Rattle.plan_slots.proofs.tables.list_slot.Goals as goal

pub returns-then-pin : goal.returns-then-pin
returns-then-pin c =
    let told = slot_empty c.args.part.now.d.now c.args.part.now.p c.args.table.now c.args.list.now c.args.n c.args.j c.level_slot-pin.result.0 c.level_slot-pin.ensures c.if-pin.true in
    record { value = told.0; table_after = told.1.0; list_after = told.1.1.0; all_pins = told.1.1.1 }

pub returns-in-Some : goal.returns-in-Some
returns-in-Some c =
    let told = slot_again c.args.part.now.d.now c.args.part.now.p c.args.table.now c.args.list.now c.args.n c.args.j c.level_slot-pin.result.0 c.level_slot-pin.ensures c.if-pin.false
    (omega (arith, c.requires.1, c.args.part.now.of.lanes)) c.requires.3 c.look_up.result c.look_up.ensures _ c.in-Some.is in
    record { value = told.0; table_after = told.1.0; list_after = told.1.1.0; all_pins = told.1.1.1 }

pub returns-in-None : goal.returns-in-None
returns-in-None c =
    let told = slot_new c.args.part.now.d.now c.args.part.now.p c.args.table.now c.args.list.now c.args.n c.args.j c.level_slot-pin.result.0 c.level_slot-pin.ensures c.if-pin.false
    (omega (arith, c.requires.1, c.args.part.now.of.lanes)) c.requires.3 c.look_up.result c.look_up.ensures _ _ c.in-None.is c.put.ensures.t_after refl (omega arith) in
    record { value = told.0; table_after = told.1.0; list_after = told.1.1.0; all_pins = told.1.1.1 }
