-- The first part that cannot be read is told by its refusal.
-- Assumes nothing.
use Rattle.std.proofs.Common.{ap, ◌∙◌, Err}
use Rattle.plan_checks.specs.Verdicts.{verdict_of}
use Rattle.plan_checks.proofs.RefusalPlaceLaws.{reads_told, reads_few}
use Rattle.plan_checks.proofs.reading.check_reading.Goals as goal

pub returns-in-Ok : goal.returns-in-Ok
returns-in-Ok c = record { value = ap verdict_of (reads_told c.args.plan.now _ c.in-Ok.ensures.value); room_after = c.check_reads.ensures.room_after }

pub refusal_of-requires : goal.refusal_of-requires
refusal_of-requires c = reads_few c.args.plan.now c.requires.0.form _ c.in-Err.ensures.value

pub returns-in-Err : goal.returns-in-Err
returns-in-Err c = record {
  value = ap Err c.refusal_of.ensures ∙ ap verdict_of (reads_told c.args.plan.now _ c.in-Err.ensures.value);
  room_after = c.check_reads.ensures.room_after;
}
