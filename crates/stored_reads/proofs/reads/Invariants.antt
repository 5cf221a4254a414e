-- What is found is no more than what was looked at.
-- Assumes nothing.
use Prim.Native.Nat.{◌≤◌}
use Rattle.stored_reads.proofs.reads.Given as goal

abbrev pub invariant-loop-i : goal.invariant-loop-i
invariant-loop-i l = l.found ≤ l.i
