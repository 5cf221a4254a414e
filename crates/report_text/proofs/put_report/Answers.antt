-- `report_text::put_report` meets its contract: all lines, one after the other. Assumes nothing.
use Rattle.report_text.proofs.ReportLineLaws.{report_wrote}
use Rattle.report_text.proofs.put_report.Goals as goal

pub returns : goal.returns
returns c = report_wrote c.args.batch.now c.put_totals.ensures c.put_occupancy.ensures c.put_refusals.ensures
