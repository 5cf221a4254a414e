-- `write_pairs`: what is left of the join, stored behind what is written, is the whole join stored.
-- Assumes nothing.
use mathlib.Core.Path.{◌≡◌}
use Prim.Native.Nat.{◌+◌, ◌-◌}
use lib.ListN.{length, drop}
use lib.Seq.{sets}
use Rattle.joins_sets.specs.Join.{join}
use Rattle.joins.proofs.JoinPassLaws.{Halfway}
use Rattle.joins.proofs.merging.write_pairs.Given as goal

abbrev pub invariant-loop-i : goal.invariant-loop-i
invariant-loop-i l =
    Halfway l.a l.b l.n l.i l.j × (length l.out ≡ length l.initial.out) × (sets l.out l.n (join (drop l.i l.a) (drop l.j l.b)) ≡ sets l.initial.out 0 (join l.a l.b))

abbrev pub decreases-loop-i : goal.decreases-loop-i
decreases-loop-i l = length l.a + length l.b - (l.i + l.j)
