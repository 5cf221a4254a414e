-- `aiger_read::lists::fill` meets its contract. The invariant: what is written, with the gates from gate k on, is the list. Assumes nothing.
use Prim.Native.Nat.{◌+◌, ◌*◌, ◌-◌}
use Rattle.aiger_read.proofs.ReadPassLaws.{Filling}
use Rattle.aiger_read.proofs.lists.fill.Given as goal

abbrev pub invariant-loop-k : goal.invariant-loop-k
invariant-loop-k l = Filling l.bytes l.initial.out l.gates l.first.0 l.at l.out (l.gates - l.k) (l.first.0 + l.k) l.i (3 * l.k)
