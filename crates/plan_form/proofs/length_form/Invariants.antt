-- A body begins where the one before ends; one that begins past the words says that the record is too short.
-- Assumes nothing.
use Rattle.std.proofs.Common.{◌≡◌, ◌^◌, ◌<◌}
use Rattle.plan_record.specs.Record.{body_at}
use Rattle.plan_form.proofs.length_form.Given as goal

abbrev pub invariant-loop-p : goal.invariant-loop-p
invariant-loop-p l = (l.at ≡ body_at l.d l.p) × (l.at < 2 ^ 63)
