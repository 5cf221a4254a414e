-- `find_lane`: the search from here, over the lanes that are left, is the search.
-- Assumes nothing.
use mathlib.Core.Path.{◌≡◌}
use Prim.Native.Nat.{◌-◌, ◌<◌}
use Rattle.reads_try.specs.Tries.{first_free}
use Rattle.reads_try.proofs.find_lane.Given as goal

abbrev pub invariant-loop-passed : goal.invariant-loop-passed
invariant-loop-passed l = (l.j < l.lanes) × (first_free l.lanes (l.lanes - l.passed) l.used l.b l.j ≡ first_free l.lanes l.lanes l.used l.b l.from)
