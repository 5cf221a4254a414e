-- `aiger_read::fields::digits_from` meets its contract. The invariant: the number that `value` and the digits from i on make is the one asked for, and `value` is not too large yet. Assumes nothing.
use mathlib.Core.Path.{◌≡◌}
use Prim.Native.Nat.{◌≤◌}
use lib.ListN.{drop}
use Rattle.aiger.specs.Reading.{digits_from}
use Rattle.aiger_read.proofs.fields.digits_from.Given as goal

abbrev pub invariant-loop-i : goal.invariant-loop-i
invariant-loop-i l = (l.value ≤ l.most) × (digits_from l.value l.i (drop l.i l.bytes) ≡ digits_from 0 l.at (drop l.at l.bytes))
