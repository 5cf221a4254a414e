-- `late_full`: of the pairs that are left to pass over and the pieces that are left, the answer is the whole one.
-- Assumes nothing.
use mathlib.Core.Path.{◌≡◌}
use Prim.Native.Nat.{◌≤◌}
use lib.ListN.{drop}
use Rattle.reads_try.specs.Late.{late_full}
use Rattle.reads_try.proofs.late_full.Given as goal

abbrev pub invariant-loop-key : goal.invariant-loop-key
invariant-loop-key l = (l.left ≤ l.lanes) × (late_full l.left l.k l.set (drop l.key-index l.keys) ≡ late_full l.lanes l.k l.set l.keys)
