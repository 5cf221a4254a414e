-- `repair::place_of` meets its contract: the place's subtree is inside the stage.
-- Assumes nothing.
use native.Mathlib.Omega.{arith}
use Rattle.repair.proofs.RepairCodeLaws.{placed_place, place_full}
use Rattle.repair.proofs.place_of.Goals as goal

pub overflow_add-result : goal.overflow_add-result
overflow_add-result c =
    omega (arith, c.width_of-width.ensures.1)

pub invariant_of-result : goal.invariant_of-result
invariant_of-result c =
    record { rooted = place_full c.args.height c.args.level c.args.slot _ c.requires.0 c.requires.1 c.requires.2 c.width_of-width.ensures.0 }

pub returns : goal.returns
returns c =
    placed_place c.args.height c.args.level c.args.slot _ _ c.requires.1 c.requires.2 c.width_of-width.ensures.0
