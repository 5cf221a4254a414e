-- `report_text::put_two` meets its contract: the word, then the two numbers. Assumes nothing.
use Rattle.report_text.proofs.ReportLineLaws.{two_wrote}
use Rattle.report_text.proofs.put_two.Goals as goal

pub returns : goal.returns
returns c = two_wrote _ _ _ c.requires.1 c.put_bytes.ensures c.put_number.ensures c.put_number-2.ensures
