-- `aiger_read::start::lines_from` meets its contract. The invariant: the lines that are left, from here on, are those asked for. Assumes nothing.
use mathlib.Core.Path.{◌≡◌}
use Prim.Native.Nat.{◌-◌}
use Rattle.aiger.specs.Reading.{lines_from}
use Rattle.aiger_read.proofs.start.lines_from.Given as goal

abbrev pub invariant-loop : goal.invariant-loop
invariant-loop l = lines_from l.bytes l.most (l.lines - l.counter) l.i ≡ lines_from l.bytes l.most l.lines l.at
