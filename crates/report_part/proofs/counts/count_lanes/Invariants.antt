-- `report_part::counts::count_lanes`: what is counted, with what the lanes from j on hold, is what all lanes hold.
-- Assumes nothing.
use mathlib.Core.Path.{◌≡◌}
use Prim.Native.Nat.{◌+◌, max}
use lib.ListN.{drop}
use Rattle.reads.specs.Search.{longest}
use Rattle.reads_try.specs.TableLanes.{lanes_at}
use Rattle.report.specs.Report.{lanes_in_use, contents}
use Rattle.report_part.proofs.counts.count_lanes.Given as goal

abbrev pub invariant-loop-j : goal.invariant-loop-j
invariant-loop-j l =
    (l.bits + contents (drop l.j (lanes_at l.set l.table l.n)) ≡ contents (lanes_at l.set l.table l.n)) × (l.lanes + lanes_in_use (drop l.j (lanes_at l.set l.table l.n)) ≡ lanes_in_use (lanes_at l.set l.table l.n))
    × (max l.rounds (longest (drop l.j (lanes_at l.set l.table l.n))) ≡ longest (lanes_at l.set l.table l.n))
