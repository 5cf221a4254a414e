-- `report_batch::is_counted` meets its contract: what is left to count, with what was counted, is what was fed. Assumes nothing.
use Rattle.report_batch.proofs.BatchFormLaws.{Left}
use Rattle.report_batch.proofs.is_counted.Given as goal

abbrev pub invariant-loop-k : goal.invariant-loop-k
invariant-loop-k l = Left l.batch l.left l.k
