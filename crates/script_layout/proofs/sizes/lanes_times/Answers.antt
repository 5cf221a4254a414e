-- At most 256 times 2^32.
-- Assumes nothing.
use mathlib.Core.Path.{refl}
use Prim.Native.Nat.{◌^◌, ◌≤◌}
use native.Mathlib.Nat.{mul-le-mul}
use native.Mathlib.Omega.{arith}
use Rattle.script_layout.proofs.sizes.lanes_times.Goals as goal

pub overflow_mul-result : goal.overflow_mul-result
overflow_mul-result c =
    let few : c.args.runs ≤ 2 ^ 32 = omega arith in
    omega (arith, mul-le-mul c.requires few)

pub returns : goal.returns
returns c =
    let few : c.args.runs ≤ 2 ^ 32 = omega arith in
    (refl, mul-le-mul c.requires few)
