-- `aiger_write::bytes::put_gate` meets its contract: its two differences, one after the other. Assumes nothing.
use Rattle.aiger_write.proofs.ByteLaws.{gate_wrote}
use Rattle.aiger_write.proofs.bytes.put_gate.Goals as goal

pub returns : goal.returns
returns c = gate_wrote _ _ _ _ c.inverted.ensures c.put_difference.ensures c.put_difference-2.ensures
