-- `plan_known::put_slot_bit` meets its contract. The entry that is found for the pin gives its planned position, and each pin that is read is found.
-- Assumes nothing.
use mathlib.Core.Path.{sym}
use native.Mathlib.Omega.{arith}
use lib.Seq.{length-take-le}
use Rattle.plan_known.proofs.KnownLaws.{bit_empty, bit_value, bit_missing, rest_is}
use Rattle.plan_known.proofs.put_slot_bit.Goals as goal

pub returns-then-pin : goal.returns-then-pin
returns-then-pin c =
    bit_empty c.args.part.now.d.now c.args.part.now.p c.args.part.now.body c.args.old.now c.args.new.now c.args.room.now c.requires.0 c.args.j _ (omega (arith, c.requires.1, c.requires.0.body.lanes)) c.level_slot-pin.ensures c.if-pin.true

pub slice_bounds-put_planned-end-in-Some : goal.slice_bounds-put_planned-end-in-Some
slice_bounds-put_planned-end-in-Some c =
    sym (length-take-le 32768 c.args.room.now (omega (arith, c.requires.0.wide)))

pub returns-in-Some : goal.returns-in-Some
returns-in-Some c =
    bit_value c.args.part.now.d.now c.args.part.now.p c.args.part.now.body c.args.old.now c.args.new.now c.args.room.now c.requires.0 c.args.j _ (omega (arith, c.requires.1, c.requires.0.body.lanes))
    c.level_slot-pin.ensures c.if-pin.false _ (rest_is c.args.room.now 32768) _ _ _ c.look_up.ensures c.in-Some.is
    c.put_planned.ensures

pub returns-in_default : goal.returns-in_default
returns-in_default c =
    absurd (bit_missing c.args.part.now.d.now c.args.part.now.p c.args.part.now.body c.args.old.now c.args.new.now c.args.room.now c.requires.0 c.args.j _ (omega (arith, c.requires.1, c.requires.0.body.lanes))
    c.level_slot-pin.ensures c.if-pin.false _ (rest_is c.args.room.now 32768) _ c.look_up.ensures c.in_default.is)
