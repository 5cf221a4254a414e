-- `plan_slot_tests::runs::item_at` meets its contract. The product of two bounded numbers fits.
-- Assumes nothing.
use Prim.Native.Nat.{◌*◌, ◌≤◌}
use native.Mathlib.Nat.{mul-le-mul}
use native.Mathlib.Omega.{arith}
use Rattle.plan_slot_tests.proofs.runs.item_at.Goals as goal

pub overflow_mul-result-2 : goal.overflow_mul-result-2
overflow_mul-result-2 c =
    let few : c.args.body.lanes * c.args.s ≤ 256 * 255 = mul-le-mul c.requires.0 c.requires.1 in
    omega arith

pub overflow_add-result : goal.overflow_add-result
overflow_add-result c =
    let few : c.args.body.lanes * c.args.s ≤ 256 * 255 = mul-le-mul c.requires.0 c.requires.1 in
    omega arith
