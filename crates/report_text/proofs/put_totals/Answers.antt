-- `report_text::put_totals` meets its contract: six lines, one after the other. Assumes nothing.
use Rattle.report.specs.BatchText.{parts_name, bits_name, lanes_name, rounds_name, empty_name, words_name}
use Rattle.report_text.proofs.ReportLineLaws.{totals_wrote, line_of_word}
use Rattle.report_text.proofs.put_totals.Goals as goal

pub returns : goal.returns
returns c =
    totals_wrote c.args.batch.now
    (line_of_word parts_name _ _ c.word.ensures c.put_line.ensures)
    (line_of_word bits_name _ _ c.word-2.ensures c.put_line-2.ensures)
    (line_of_word lanes_name _ _ c.word-3.ensures c.put_line-3.ensures)
    (line_of_word rounds_name _ _ c.word-4.ensures c.put_line-4.ensures)
    (line_of_word empty_name _ _ c.word-5.ensures c.put_line-5.ensures)
    (line_of_word words_name _ _ c.word-6.ensures c.put_line-6.ensures)
