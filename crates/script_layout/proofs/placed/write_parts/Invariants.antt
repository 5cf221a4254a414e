-- The loop's invariant: the words of the parts before rank k stand from word `at` on.
-- Assumes nothing.
use mathlib.Core.Path.{◌≡◌}
use Prim.Native.Nat.{◌+◌, ◌-◌}
use lib.ListN.{length}
use lib.Seq.{sets}
use Rattle.plan_record.specs.Record.{plan_lanes}
use Rattle.script_assembly.specs.WrittenSoFar.{parts_words, parts_in}
use Rattle.script_layout.proofs.placed.write_parts.Given as goal

abbrev pub invariant-loop-k : goal.invariant-loop-k
invariant-loop-k l =
    (l.room ≡ l.initial.room)
    × (l.next ≡ l.at + length (parts_words (plan_lanes l.d) l.d l.s (parts_in l.d l.s l.b) (l.k - l.from)))
    × (l.words ≡ sets l.initial.words l.at (parts_words (plan_lanes l.d) l.d l.s (parts_in l.d l.s l.b) (l.k - l.from)))
