-- `full_in`: a pair of 32 bits is among those that are left as it is among all.
-- Assumes nothing.
use mathlib.Core.Path.{◌≡◌}
use lib.Seq.{slice}
use Rattle.reads.specs.ReadSet.{pairs_of}
use Rattle.reads_try.specs.Late.{any_full}
use Rattle.reads_try.proofs.full_in.Given as goal

abbrev pub invariant-loop-p : goal.invariant-loop-p
invariant-loop-p l = any_full (slice l.p l.e (pairs_of l.set)) ≡ any_full (slice l.a l.e (pairs_of l.set))
