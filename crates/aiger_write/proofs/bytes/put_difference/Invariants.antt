-- `aiger_write::bytes::put_difference` meets its contract. The invariant: the bytes that are put, with those of the rest, are the difference's. Assumes nothing.
use Rattle.aiger_write.proofs.ByteLaws.{Putting}
use Rattle.aiger_write.proofs.bytes.put_difference.Given as goal

abbrev pub invariant-loop-rest : goal.invariant-loop-rest
invariant-loop-rest l = Putting l.x l.initial.out l.out l.rest

abbrev pub decreases-loop-rest : goal.decreases-loop-rest
decreases-loop-rest l = l.rest
