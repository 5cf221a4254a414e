-- `aiger_write::lists::put_header` meets its contract: its fields, one after the other. Assumes nothing.
use Rattle.aiger_write.proofs.WritePassLaws.{head_wrote}
use Rattle.aiger_write.proofs.lists.put_header.Goals as goal

pub returns : goal.returns
returns c = head_wrote _ _ _ c.put_bytes.ensures c.put_number.ensures c.put_number-2.ensures c.put_bytes-2.ensures c.put_number-3.ensures
