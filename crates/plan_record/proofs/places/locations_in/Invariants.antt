-- The sum so far is that of the stages passed.
-- Assumes nothing.
use Rattle.std.proofs.Common.{◌≡◌, ◌*◌, ◌≤◌}
use Rattle.plan_record.specs.Record.{locations_in}
use Rattle.plan_record.proofs.places.locations_in.Given as goal

abbrev pub invariant-loop-s : goal.invariant-loop-s
invariant-loop-s l = (l.sum ≡ locations_in l.d l.b l.s l.e) × (l.sum ≤ 4294967295 * l.s)
