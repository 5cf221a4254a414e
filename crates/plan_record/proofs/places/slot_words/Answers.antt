-- The product of two bounded numbers.
-- Assumes nothing.
use native.Mathlib.Omega.{arith}
use Rattle.plan_record.specs.Record.{slot_words}
use Rattle.plan_record.proofs.RecordLaws.{stages_few}
use Rattle.plan_record.proofs.places.slot_words.Goals as goal

pub overflow_mul-result-2 : goal.overflow_mul-result-2
overflow_mul-result-2 c = omega (arith, stages_few c.args.lanes c.args.s (omega arith) (omega arith))

pub returns : goal.returns
unfolding slot_words
returns c = omega (arith, stages_few c.args.lanes c.args.s (omega arith) (omega arith))
