-- After i turns the first i entries are the stage's.
-- Assumes nothing.
use Rattle.std.proofs.Common.{◌≡◌, ◌+◌, take}
use Rattle.words.specs.Section.{list_of}
use Rattle.plan_record.specs.Record.{plan_lanes}
use Rattle.script.specs.Script.{stage_entry}
use Rattle.script_sections.proofs.stages.later_entries.Given as goal

abbrev pub invariant-loop-i : goal.invariant-loop-i
invariant-loop-i l = take l.i l.entries ≡ list_of (stage_entry (plan_lanes l.part.d.now) l.part.d.now l.part.p (l.s + 1)) l.i
