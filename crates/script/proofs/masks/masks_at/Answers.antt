-- One law for each way out.
-- Assumes nothing.
use Rattle.script.proofs.MaskLaws.{bits_first, bits_empty, bits_carried, bits_gate, bits_missing}
use Rattle.words.proofs.EditionLaws.{known_number}
use Prim.Native.Nat.{◌+◌, ◌*◌, ◌<◌}
use native.Mathlib.Omega.{arith}
use Rattle.script.proofs.masks.masks_at.Goals as goal

pub returns-then-q-eq0 : goal.returns-then-q-eq0
returns-then-q-eq0 c = bits_first c.args.part.now.d.now c.args.part.now.p c.args.s c.args.q c.if-q-eq0.true

pub returns-then-pin : goal.returns-then-pin
returns-then-pin c =
    bits_empty c.args.part.now.d.now c.args.part.now.p c.args.s c.args.q _ c.slot-pin.ensures c.if-q-eq0.false c.if-pin.true

pub overflow_add-q : goal.overflow_add-q
overflow_add-q c =
    let inside : c.args.q + 2 * c.top_power.result < 64 * c.args.part.now.body.lanes = c.top_power.ensures.inside c.args.part.now.body.lanes (known_number _ c.args.part.now.of.laid.edition) c.requires.2 in
    omega (arith, inside)

pub slot-requires : goal.slot-requires
slot-requires c =
    let inside : c.args.q + 2 * c.top_power.result < 64 * c.args.part.now.body.lanes = c.top_power.ensures.inside c.args.part.now.body.lanes (known_number _ c.args.part.now.of.laid.edition) c.requires.2 in
    (c.requires.1, omega (arith, c.top_power.ensures.some), omega (arith, inside))

pub returns-then-pin-slot : goal.returns-then-pin-slot
returns-then-pin-slot c =
    bits_carried c.args.part.now.d.now c.args.part.now.p c.args.s c.args.q _ c.slot-pin.ensures c.if-q-eq0.false c.if-pin.false _ _ c.top_power.ensures.is c.slot.ensures c.if-pin-slot.true

pub returns-in-Some : goal.returns-in-Some
returns-in-Some c =
    bits_gate c.args.part.now.d.now c.args.part.now.p c.args.s c.args.q _ c.slot-pin.ensures c.if-q-eq0.false c.if-pin.false _ _ c.top_power.ensures.is c.slot.ensures c.if-pin-slot.false _ c.find_gate.ensures _ _ _ _ _
    c.in-Some.is
    c.gate_first.ensures
    c.inversion-xora.ensures
    c.gate_second.ensures
    c.inversion-xorb.ensures

pub returns-in-None : goal.returns-in-None
returns-in-None c =
    bits_missing c.args.part.now.d.now c.args.part.now.p c.args.s c.args.q _ c.slot-pin.ensures c.if-q-eq0.false c.if-pin.false _ _ c.top_power.ensures.is c.slot.ensures c.if-pin-slot.false _ c.find_gate.ensures c.in-None.is
