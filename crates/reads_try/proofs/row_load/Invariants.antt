-- `row_load`: what is summed, with what the rest of the row says, is what the row says.
-- Assumes nothing.
use mathlib.Core.Path.{◌≡◌}
use Prim.Native.Nat.{◌+◌, ◌*◌, ◌≤◌}
use lib.ListN.{length, drop}
use Rattle.reads.specs.ReadSet.{total}
use Rattle.reads_try.specs.TableLanes.{lane_of}
use Rattle.reads_try.proofs.row_load.Given as goal

abbrev pub invariant-loop-pairs : goal.invariant-loop-pairs
invariant-loop-pairs l =
    (l.bits ≤ 32 * l.pairs)
    × (l.bits + total (lane_of l.set (drop l.pairs l.row)) ≡ total (lane_of l.set l.row))
    × (l.pairs + length (lane_of l.set (drop l.pairs l.row)) ≡ length (lane_of l.set l.row))
