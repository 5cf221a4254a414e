-- `reads_local::fill_bases` meets its contract. The loop's invariant: the lanes that are left give what all lanes gave at the start.
-- Assumes nothing.
use mathlib.Core.Path.{◌≡◌}
use Rattle.reads_local.proofs.BaseLaws.{lanesLeft}
use Rattle.reads_local.proofs.fill_bases.Given as goal

abbrev pub invariant-loop-j : goal.invariant-loop-j
invariant-loop-j l = lanesLeft l.set l.table l.lanes l.j l.bases ≡ lanesLeft l.set l.table l.lanes 0 l.initial.bases
