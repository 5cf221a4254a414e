-- `text::Writer::put_number` meets its contract: a number, then the byte after it. Assumes nothing.
use Rattle.text.proofs.WritingLaws.{wrote_then}
use Rattle.text.proofs.Writer.put_number.Goals as goal

pub returns : goal.returns
returns c = wrote_then _ _ c.put_decimal.ensures c.put.ensures
