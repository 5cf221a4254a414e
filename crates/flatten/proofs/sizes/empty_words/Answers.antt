-- At most 256 times 2^38.
-- Assumes nothing.
use mathlib.Core.Path.{ap₂}
use Prim.Native.Nat.{◌*◌}
use native.Mathlib.Nat.{mul-le-mul}
use native.Mathlib.Omega.{arith}
use Rattle.flatten.proofs.sizes.empty_words.Goals as goal

pub overflow_mul-result : goal.overflow_mul-result
overflow_mul-result c = omega (arith, mul-le-mul c.lanes_of.ensures.2 c.empty_blocks.ensures.1)

pub returns : goal.returns
returns c =
    (ap₂ ◌*◌ c.lanes_of.ensures.0 c.empty_blocks.ensures.0, mul-le-mul c.lanes_of.ensures.2 c.empty_blocks.ensures.1)
