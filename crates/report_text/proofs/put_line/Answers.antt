-- `report_text::put_line` meets its contract: the word, then the number. Assumes nothing.
use Rattle.report_text.proofs.ReportLineLaws.{line_wrote}
use Rattle.report_text.proofs.put_line.Goals as goal

pub returns : goal.returns
returns c = line_wrote _ _ c.requires.1 c.put_bytes.ensures c.put_number.ensures
