-- The runs before i are put.
-- Assumes nothing.
use Prim.Native.Nat.{◌≤◌}
use lib.ListN.{length}
use Rattle.stored_lists.proofs.StoredListLaws.{Put}
use Rattle.stored_lists.proofs.list.expand.Given as goal

abbrev pub invariant-loop-i : goal.invariant-loop-i
invariant-loop-i l = (l.filled ≤ length l.words) × Put l.file l.at l.runs l.i l.filled l.words
