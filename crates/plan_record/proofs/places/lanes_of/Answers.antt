-- The one number, or the other.
-- Assumes nothing.
use native.Mathlib.Omega.{arith}
use Rattle.plan_record.proofs.RecordLaws.{lanes_small, lanes_other}
use Rattle.plan_record.proofs.places.lanes_of.Goals as goal

pub returns-then-word_at : goal.returns-then-word_at
returns-then-word_at c = (lanes_small _ _ c.word_at.ensures c.if-word_at.true, omega arith, omega arith)

pub returns-else-word_at : goal.returns-else-word_at
returns-else-word_at c = (lanes_other _ _ c.word_at.ensures c.if-word_at.false, omega arith, omega arith)
