-- `report_text::put_refusal` meets its contract: a line where the number occurred. Assumes nothing.
use Rattle.report_text.proofs.ReportLineLaws.{refusal_none, refusal_some}
use Rattle.report_text.proofs.put_refusal.Goals as goal

pub returns-then-count-gt0 : goal.returns-then-count-gt0
returns-then-count-gt0 c = refusal_some c.args.batch.now c.args.k _ c.word-count.ensures c.if-count-gt0.true c.put_two.ensures

pub returns-else-count-gt0 : goal.returns-else-count-gt0
returns-else-count-gt0 c = refusal_none c.args.batch.now c.args.k _ c.word-count.ensures c.if-count-gt0.false _
