-- `listing_line::put_line` meets its contract: its fields, one after the other. Assumes nothing.
use Rattle.listing_line.proofs.LineLaws.{wrote_fields}
use Rattle.listing_line.proofs.put_line.Goals as goal

pub returns : goal.returns
returns c =
    wrote_fields _ _ _ _ c.put_number.ensures c.put_number-2.ensures c.kind_letter.ensures c.put.ensures c.put-2.ensures c.put_number-3.ensures c.put_hex.ensures c.put-3.ensures
