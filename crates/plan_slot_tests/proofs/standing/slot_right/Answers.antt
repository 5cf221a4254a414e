-- `plan_slot_tests::standing::slot_right` meets its contract. One law of SlotTestLaws for each way out.
-- Assumes nothing.
use native.Mathlib.Omega.{arith}
use Rattle.plan_slot_tests.proofs.ItemLaws.{power_inside}
use Rattle.plan_slot_tests.proofs.SlotTestLaws.{slot_empty, slot_far, slot_carried, slot_fed}
use Rattle.plan_slot_tests.proofs.standing.slot_right.Goals as goal

pub returns-then-pin : goal.returns-then-pin
returns-then-pin c =
    slot_empty c.args.part.now.d.now c.args.part.now.p c.args.s c.args.q c.slot-pin.result.0 c.slot-pin.ensures c.if-pin.true

pub returns-then-pin-gt-LAST_PIN : goal.returns-then-pin-gt-LAST_PIN
returns-then-pin-gt-LAST_PIN c =
    slot_far c.args.part.now.d.now c.args.part.now.p c.args.s c.args.q c.slot-pin.result.0 c.slot-pin.ensures c.if-pin.false c.if-pin-gt-LAST_PIN.true

pub overflow_add-q : goal.overflow_add-q
overflow_add-q c =
    let inside = power_inside c.args.part.now.d.now c.args.part.now.p c.args.part.now.body c.args.q _ c.args.part.now.of c.top_power-m.ensures c.requires.2 in
    omega (arith, inside)

pub slot-a-requires : goal.slot-a-requires
slot-a-requires c =
    let inside = power_inside c.args.part.now.d.now c.args.part.now.p c.args.part.now.body c.args.q _ c.args.part.now.of c.top_power-m.ensures c.requires.2 in
    (c.requires.0, omega (arith, inside), omega (arith, inside, c.top_power-m.ensures.some))

pub returns-then-pin-a : goal.returns-then-pin-a
returns-then-pin-a c =
    slot_carried c.args.part.now.d.now c.args.part.now.p c.args.s c.args.q c.slot-pin.result.0 c.slot-pin.ensures c.if-pin.false c.if-pin-gt-LAST_PIN.false c.top_power-m.result c.slot-a.result.0 c.top_power-m.ensures.is c.slot-a.ensures c.if-pin-a.true

pub overflow_mul-m : goal.overflow_mul-m
overflow_mul-m c =
    let inside = power_inside c.args.part.now.d.now c.args.part.now.p c.args.part.now.body c.args.q _ c.args.part.now.of c.top_power-m.ensures c.requires.2 in
    omega (arith, inside)

pub overflow_add-q-2 : goal.overflow_add-q-2
overflow_add-q-2 c =
    let inside = power_inside c.args.part.now.d.now c.args.part.now.p c.args.part.now.body c.args.q _ c.args.part.now.of c.top_power-m.ensures c.requires.2 in
    omega (arith, inside)

pub slot-requires : goal.slot-requires
slot-requires c =
    let inside = power_inside c.args.part.now.d.now c.args.part.now.p c.args.part.now.body c.args.q _ c.args.part.now.of c.top_power-m.ensures c.requires.2 in
    (c.requires.0, omega (arith, inside), omega (arith, inside))

pub returns : goal.returns
returns c =
    slot_fed c.args.part.now.d.now c.args.part.now.p c.args.s c.args.q c.slot-pin.result.0 c.slot-pin.ensures c.if-pin.false c.if-pin-gt-LAST_PIN.false c.top_power-m.result
    c.slot-a.result.0 c.top_power-m.ensures.is c.slot-a.ensures c.slot.result.0 c.fed_by.result c.slot.ensures c.if-pin-a.false
    c.fed_by.ensures
