-- `aiger_write::bytes::gate_length` meets its contract: the bytes of its two differences. Assumes nothing.
use native.Mathlib.Omega.{arith}
use Rattle.aiger_write.proofs.ByteLaws.{gate_long}
use Rattle.aiger_write.proofs.bytes.gate_length.Goals as goal

pub returns : goal.returns
returns c =
    (gate_long _ _ _ _ _ _ c.inverted.ensures c.difference_length.ensures.0 c.difference_length-2.ensures.0, omega (arith, c.difference_length.ensures.1, c.difference_length-2.ensures.1))
