-- `aiger_write::lists::judge_gates` meets its contract. The invariant: the gates before g are right, and their bytes with those from g on make the text. Assumes nothing.
use Rattle.aiger_write.proofs.WritePassLaws.{Judging}
use Rattle.aiger_write.proofs.lists.judge_gates.Given as goal

abbrev pub invariant-loop-g : goal.invariant-loop-g
invariant-loop-g l = Judging l.gates l.bytes l.g
