-- What is found, and the extras from the neighbour before on, are those of the list.
-- Assumes nothing.
use Rattle.std.proofs.Common.{◌≡◌, ◌+◌, ◌-◌, ◌≤◌, drop}
use Rattle.plan_counts.specs.Neighbours.{extras}
use Rattle.plan_counts.proofs.activations.extras_in.Given as goal

abbrev pub invariant-loop-i : goal.invariant-loop-i
invariant-loop-i l = (l.found + 1 ≤ l.i) × (l.found + extras (drop (l.i - 1) l.keys) ≡ extras l.keys)
