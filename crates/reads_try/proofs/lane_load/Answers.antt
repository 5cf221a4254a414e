-- `lane_load`: the part that is lent is the lane's row.
-- Assumes nothing.
use mathlib.Core.Path.{◌≡◌}
use Prim.Native.Nat.{◌+◌, ◌*◌, ◌-◌}
use native.Mathlib.Omega.{arith}
use Rattle.reads_try.proofs.lane_load.Goals as goal

pub row_load-requires : goal.row_load-requires
row_load-requires c =
    let n : 32 * c.args.j + 32 - 32 * c.args.j ≡ 32 = omega arith in
    rw n c.requires.row

pub returns : goal.returns
returns c =
    let n : 32 * c.args.j + 32 - 32 * c.args.j ≡ 32 = omega arith in
    rw n at c.row_load.ensures
