-- The sum so far is that of the stages passed.
-- Assumes nothing.
use Rattle.std.proofs.Common.{◌≡◌, ◌*◌, ◌≤◌}
use Rattle.plan_record.specs.Record.{parts_before}
use Rattle.plan_record.proofs.places.parts_before.Given as goal

abbrev pub invariant-loop-i : goal.invariant-loop-i
invariant-loop-i l = (l.sum ≡ parts_before l.d l.i) × (l.sum ≤ 4294967295 * l.i)
