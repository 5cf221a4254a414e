-- `longest_row`: the longest so far and the longest of the lanes from j on are the longest of all.
-- Assumes nothing.
use mathlib.Core.Path.{◌≡◌}
use Prim.Native.Nat.{max}
use lib.ListN.{drop}
use Rattle.reads.specs.Search.{longest}
use Rattle.reads_try.specs.TableLanes.{lanes_at}
use Rattle.reads_section.proofs.longest_row.Given as goal

abbrev pub invariant-loop-j : goal.invariant-loop-j
invariant-loop-j l = max l.best (longest (drop l.j (lanes_at l.set l.room l.lanes))) ≡ longest (lanes_at l.set l.room l.lanes)
