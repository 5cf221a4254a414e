-- A word is there or it is 0, as the test says.
-- Assumes nothing.
use mathlib.Core.Path.{sym}
use native.Mathlib.Omega.{arith}
use Rattle.plan_record.proofs.RecordLaws.{word_missing}
use Rattle.plan_record.proofs.places.word_at.Goals as goal

pub returns-else-i-d : goal.returns-else-i-d
returns-else-i-d c = sym (word_missing _ _ (omega arith))
