-- The first bad location from here on is that of the part.
-- Assumes nothing.
use Rattle.std.proofs.Common.{◌≡◌, ◌-◌}
use Rattle.plan_record.specs.Record.{locations_of}
use Rattle.words.specs.Tests.{first_from}
use Rattle.plan_counts.specs.Parts.{location_fits, bad_location}
use Rattle.plan_counts.proofs.first_bad_location.Given as goal

abbrev pub invariant-loop-l : goal.invariant-loop-l
invariant-loop-l l = first_from (location_fits l.part.d.now l.part.p) (locations_of l.part.d.now l.part.p - l.l) l.l ≡ bad_location l.part.d.now l.part.p
