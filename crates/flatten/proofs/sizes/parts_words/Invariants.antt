-- The loop's invariant: the words of the first p parts, each below 2^45.
-- Assumes nothing.
use mathlib.Core.Path.{◌≡◌}
use Prim.Native.Nat.{◌*◌, ◌≤◌}
use Rattle.words.specs.Sum.{sum_to}
use Rattle.script_assembly.specs.WrittenSoFar.{length_of}
use Rattle.plan_record.specs.Record.{plan_lanes}
use Rattle.flatten.proofs.sizes.parts_words.Given as goal

abbrev pub invariant-loop-p : goal.invariant-loop-p
invariant-loop-p l = (l.sum ≡ sum_to (length_of (plan_lanes l.d) l.d) l.p) × (l.sum ≤ 35184372088832 * l.p)
