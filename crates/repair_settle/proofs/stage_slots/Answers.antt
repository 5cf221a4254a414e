-- `repair_settle::stage_slots` meets its contract: twice a power of two, less one.
-- Assumes nothing.
use mathlib.Core.Path.{◌≡◌}
use Prim.Native.Nat.{◌+◌, ◌*◌, ◌^◌, ◌<◌}
use native.Mathlib.Nat.{pow-suc, one-le-pow}
use native.Mathlib.Numerals.{add-one}
use native.Mathlib.Omega.{arith}
use Rattle.repair_settle.proofs.stage_slots.Goals as goal

pub overflow_sub-result : goal.overflow_sub-result
overflow_sub-result c =
    let some : 0 < 2 ^ c.args.height = one-le-pow c.args.height 2 (omega arith) in
    omega (arith, c.level_slots.ensures.0, some)

pub returns : goal.returns
returns c =
    let twice : 2 ^ (c.args.height + 1) ≡ 2 ^ c.args.height * 2 = rw (add-one c.args.height) (pow-suc 2 c.args.height) in
    omega (arith, c.level_slots.ensures.0, twice)
