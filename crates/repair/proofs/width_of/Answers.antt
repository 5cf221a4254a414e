-- `repair::width_of` meets its contract: a level has the slots of a level 0 with fewer levels above it.
-- Assumes nothing.
use native.Mathlib.Omega.{arith}
use Rattle.repair.proofs.width_of.Goals as goal

pub level_slots-requires : goal.level_slots-requires
level_slots-requires c = omega arith
