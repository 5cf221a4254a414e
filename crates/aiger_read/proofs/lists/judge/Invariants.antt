-- `aiger_read::lists::judge` meets its contract. The invariant: what the gates from gate k on are judged is what all are. Assumes nothing.
use mathlib.Core.Path.{◌≡◌}
use Prim.Native.Nat.{◌+◌, ◌-◌}
use Rattle.aiger.specs.Reading.{gates_from}
use Rattle.aiger_read.specs.ReadTold.{gates_judged}
use Rattle.aiger_read.proofs.lists.judge.Given as goal

abbrev pub invariant-loop-k : goal.invariant-loop-k
invariant-loop-k l =
    gates_judged (gates_from l.bytes (l.gates - l.k) (l.first.0 + l.k) l.i) ≡ gates_judged (gates_from l.bytes l.gates l.first.0 l.at)
