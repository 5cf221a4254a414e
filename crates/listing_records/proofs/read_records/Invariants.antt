-- `listing_records::read_records` meets its contract. The invariant: the keys stored, with those that the records from here on ask for, are all of
-- them. Assumes nothing.
use Rattle.listing_records.proofs.ListingRecordLaws.{Reading}
use lib.ListN.{length}
use Prim.Native.Nat.{◌-◌}
use Rattle.listing_records.proofs.read_records.Given as goal

abbrev pub invariant-loop-asked : goal.invariant-loop-asked
invariant-loop-asked l = Reading (length l.initial.keys) l.s l.initial.keys l.keys l.n l.at

abbrev pub decreases-loop-asked : goal.decreases-loop-asked
decreases-loop-asked l = length l.initial.keys - l.n
