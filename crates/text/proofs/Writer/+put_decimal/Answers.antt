-- `text::Writer::put_decimal` meets its contract. Assumes nothing.
use Rattle.text.proofs.TextLaws.{wrote_only, wrote_last}
use Rattle.text.proofs.Writer.+put_decimal.Goals as goal
use Rattle.text.proofs.Writer.+put_decimal.Goals.{then-n-ge10, else-n-ge10}

pub returns : goal.returns
returns t c =
    let d = rw c.digit.ensures at c.put.ensures in
    elim c.if-n-ge10.branch [
      | then-n-ge10 w ↦ wrote_last _ w.if-n-ge10.true c.ranges.n.fits w.put_decimal.ensures (rw w.self-is at d)
      | else-n-ge10 w ↦ wrote_only _ w.if-n-ge10.false (rw w.self-is at d)
    ]
