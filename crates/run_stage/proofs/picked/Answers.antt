-- `run_stage::picked` meets its contract: two bits make a number below 4.
-- Assumes nothing.
use native.Mathlib.Omega.{arith}
use Rattle.run_stage.proofs.GatherLaws.{at_small}
use Rattle.run_stage.proofs.picked.Goals as goal

pub overflow_mul-result : goal.overflow_mul-result
overflow_mul-result c = omega (arith, at_small _ _ _ c.bit_at.ensures)

pub overflow_add-result : goal.overflow_add-result
overflow_add-result c = omega (arith, at_small _ _ _ c.bit_at.ensures, at_small _ _ _ c.bit_at-2.ensures)
