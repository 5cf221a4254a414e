-- `aiger_write::lists::put_gates` meets its contract. The invariant: the gates that are put, with those from g on, are all. Assumes nothing.
use Prim.Native.Nat.{◌-◌, ◌*◌}
use Rattle.text.proofs.WritingLaws.{Writing}
use Rattle.gatelist.specs.ListWords.{whole_gates}
use Rattle.aiger.specs.Writing.{gates_bytes}
use Rattle.aiger_write.proofs.lists.put_gates.Given as goal

abbrev pub invariant-loop-g : goal.invariant-loop-g
invariant-loop-g l = Writing (gates_bytes l.gates (whole_gates l.gates - l.g) l.g) (gates_bytes l.gates (whole_gates l.gates) 0) (10 * l.g) l.initial.out l.out
