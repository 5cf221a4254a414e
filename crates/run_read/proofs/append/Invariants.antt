-- `run_read::append` meets its contract. The invariant: the bits of the mask that are left append what is missing, and they have room.
-- Assumes nothing.
use Rattle.run_read.proofs.AppendLaws.{Appending}
use Rattle.run_read.proofs.append.Given as goal

abbrev pub invariant-loop-m : goal.invariant-loop-m
invariant-loop-m l = Appending l.acc l.word l.mask l.a l.w l.m

abbrev pub decreases-loop-m : goal.decreases-loop-m
decreases-loop-m l = l.m
