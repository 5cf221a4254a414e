-- The table has the pin's entry; that it lacks it cannot be.
-- Assumes nothing.
use mathlib.Core.Path.{sym}
use lib.Seq.{length-take-le}
use Rattle.plan_positions.proofs.PlannedLaws.{pin_value_lem, pin_missing}
use Rattle.plan_positions.proofs.planned.pin_right.Goals as goal

pub slice_bounds-look_up-end : goal.slice_bounds-look_up-end
slice_bounds-look_up-end c = sym (length-take-le 32768 c.args.room.now c.requires.1)

pub look_up-requires : goal.look_up-requires
look_up-requires c = c.requires.2.small

pub returns-in-Some : goal.returns-in-Some
returns-in-Some c =
    pin_value_lem c.args.d.now c.args.room.now c.args.n c.args.pin.0 c.requires.2 _ _ _ c.look_up.ensures c.in-Some.is c.place_right.ensures

pub returns-in-None : goal.returns-in-None
returns-in-None c =
    absurd (pin_missing c.args.d.now c.args.room.now c.args.n c.args.pin.0 c.requires.2 _ c.look_up.ensures c.in-None.is)
