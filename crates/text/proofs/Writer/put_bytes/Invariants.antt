-- `text::Writer::put_bytes` meets its contract. The invariant: the bytes so far are written. Assumes nothing.
use lib.ListN.{take}
use Rattle.text.specs.Wrote.{Wrote}
use Rattle.text.proofs.Writer.put_bytes.Given as goal

abbrev pub invariant-loop-b : goal.invariant-loop-b
invariant-loop-b l = Wrote l.b-index (take l.b-index l.text) l.initial.self l.self
