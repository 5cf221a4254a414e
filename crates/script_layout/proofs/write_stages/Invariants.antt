-- The loop's invariant: the first s major stages are written, and their starts.
-- Assumes nothing.
use mathlib.Core.Path.{◌≡◌}
use lib.Seq.{sets}
use Rattle.plan_record.specs.Record.{plan_lanes}
use Rattle.script_assembly.specs.Assembly.{major_starts, major_words}
use Rattle.script_layout.specs.Layout.{NextOf}
use Rattle.script_layout.proofs.write_stages.Given as goal

abbrev pub invariant-loop-s : goal.invariant-loop-s
invariant-loop-s l =
    (l.room ≡ l.initial.room)
    × NextOf l.d l.s l.next
    × (l.starts ≡ sets l.initial.starts 0 (major_starts (plan_lanes l.d) l.d l.s))
    × (l.words ≡ sets l.initial.words 0 (major_words (plan_lanes l.d) l.d l.s))
