-- `plan_slot_tests::runs::eight_empty` meets its contract. The loop's invariant: the first k slots are empty just where they have all bits in common.
-- Assumes nothing.
use mathlib.Core.Path.{◌≡◌}
use Prim.Native.Nat.{◌≤◌}
use lib.Dec.{eqb}
use Rattle.words.specs.Pins.{empty}
use Rattle.words.specs.Tests.{all_below}
use Rattle.plan_slot_tests.specs.EmptyRuns.{empty_from}
use Rattle.plan_slot_tests.proofs.runs.eight_empty.Given as goal

abbrev pub invariant-loop-k : goal.invariant-loop-k
invariant-loop-k l = (l.all ≤ empty) × (eqb l.all empty ≡ all_below (empty_from l.part.d.now l.part.p l.s l.q) l.k)
