-- `sizes_over`: the table is empty whenever a size is tried, and from that size on the search ends as it does from the first.
-- Assumes nothing.
use Rattle.std.proofs.Common.{◌≡◌, ◌*◌, length, replicate}
use Rattle.reads.specs.ReadSet.{pairs_of}
use Rattle.rounds.proofs.PieceSizeLaws.{Left}
use Rattle.rounds.proofs.sizes_over.Given as goal

abbrev pub invariant-loop-k : goal.invariant-loop-k
invariant-loop-k l =
    (length l.keys ≡ length l.initial.keys) × (length l.scratch ≡ length l.initial.scratch) × (l.table ≡ replicate (32 * l.lanes) 0) × Left l.lanes (pairs_of l.set) l.k l.word
    × (length l.used ≡ l.lanes) × (length l.held ≡ l.lanes)

abbrev pub decreases-loop-k : goal.decreases-loop-k
decreases-loop-k l = l.k
