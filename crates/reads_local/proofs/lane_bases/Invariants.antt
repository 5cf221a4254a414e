-- `reads_local::lane_bases` meets its contract. The loop's invariant: the pairs from round r on are stored, and their bits counted.
-- Assumes nothing.
use Rattle.reads_local.proofs.BaseLaws.{Walked}
use Rattle.reads_local.proofs.lane_bases.Given as goal

abbrev pub invariant-loop-r : goal.invariant-loop-r
invariant-loop-r l = Walked l.set l.table l.j l.initial.bases l.bases l.r l.sum
