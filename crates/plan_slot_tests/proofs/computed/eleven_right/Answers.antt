-- `plan_slot_tests::computed::eleven_right` meets its contract. One law of SlotTestLaws for each way out.
-- Assumes nothing.
use native.Mathlib.Omega.{arith}
use Rattle.plan_slot_tests.proofs.ItemLaws.{power_inside}
use Rattle.plan_slot_tests.proofs.SlotTestLaws.{eleven_empty, eleven_carried, eleven_looked}
use Rattle.plan_slot_tests.proofs.computed.eleven_right.Goals as goal

pub returns-then-pin : goal.returns-then-pin
returns-then-pin c =
    eleven_empty c.args.part.now.d.now c.args.table.now c.args.part.now.p c.args.s c.args.q c.slot-pin.result.0 c.requires.1 c.slot-pin.ensures c.if-pin.true

pub overflow_add-q : goal.overflow_add-q
overflow_add-q c =
    let inside = power_inside c.args.part.now.d.now c.args.part.now.p c.args.part.now.body c.args.q _ c.args.part.now.of c.top_power.ensures c.requires.2 in
    omega (arith, inside)

pub slot-requires : goal.slot-requires
slot-requires c =
    let inside = power_inside c.args.part.now.d.now c.args.part.now.p c.args.part.now.body c.args.q _ c.args.part.now.of c.top_power.ensures c.requires.2 in
    (c.requires.0, omega (arith, inside), omega (arith, inside, c.top_power.ensures.some))

pub returns-then-pin-slot : goal.returns-then-pin-slot
returns-then-pin-slot c =
    eleven_carried c.args.part.now.d.now c.args.table.now c.args.part.now.p c.args.s c.args.q c.slot-pin.result.0 c.requires.1 c.slot-pin.ensures c.if-pin.false c.top_power.result c.slot.result.0 c.top_power.ensures.is c.slot.ensures c.if-pin-slot.true

pub returns : goal.returns
returns c =
    eleven_looked c.args.part.now.d.now c.args.table.now c.args.part.now.p c.args.s c.args.q c.slot-pin.result.0 c.requires.1 c.slot-pin.ensures c.if-pin.false c.top_power.result
    c.slot.result.0 c.top_power.ensures.is c.slot.ensures c.if-pin-slot.false c.requires.3 c.look_up.result c.look_up.ensures _
    c.is_none.ensures
