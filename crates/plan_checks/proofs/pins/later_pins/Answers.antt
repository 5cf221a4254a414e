-- `plan_checks::pins::later_pins` meets its contract: the words that were lent are zero again.
-- Assumes nothing.
use mathlib.Core.Path.{sym}
use native.Mathlib.Omega.{arith}
use Rattle.plan_checks.proofs.CheckedRoomLaws.{lent_size, lent_back}
use Rattle.plan_checks.proofs.pins.later_pins.Goals as goal

pub slice_bounds-refusal10-end-2 : goal.slice_bounds-refusal10-end-2
slice_bounds-refusal10-end-2 c = sym (lent_size c.args.plan.now c.args.room.now c.requires.1)

pub refusal10-requires : goal.refusal10-requires
refusal10-requires c = (c.requires.0, omega (arith, lent_size c.args.plan.now c.args.room.now c.requires.1))

pub returns : goal.returns
returns c =
    record { value = c.refusal10.ensures.value; room_unchanged = lent_back c.args.plan.now c.args.room.now _ c.requires.1 c.refusal10.ensures.room_after }
