-- The loop's invariant: the first b blocks are written, and their starts.
-- Assumes nothing.
use mathlib.Core.Path.{◌≡◌}
use lib.Seq.{sets}
use Rattle.plan_record.specs.Record.{plan_lanes}
use Rattle.script_assembly.specs.Assembly.{block_start, stage_starts, stage_words}
use Rattle.script_assembly.specs.WrittenSoFar.{first_rank}
use Rattle.script_layout.proofs.write_stage.Given as goal

abbrev pub invariant-loop-b : goal.invariant-loop-b
invariant-loop-b l =
    (l.room ≡ l.initial.room)
    × (l.next.rank ≡ first_rank l.d l.s l.b)
    × (l.next.at ≡ block_start (plan_lanes l.d) l.d l.s l.b)
    × (l.starts ≡ sets l.initial.starts l.first (stage_starts (plan_lanes l.d) l.d l.s l.b))
    × (l.words ≡ sets l.initial.words l.initial.next.at (stage_words (plan_lanes l.d) l.d l.s l.b))
