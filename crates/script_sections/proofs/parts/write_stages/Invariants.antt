-- After s turns the sections of stages 0 to s are there.
-- Assumes nothing.
use Rattle.std.proofs.Common.{◌≡◌, ◌+◌, ◌*◌, take}
use Rattle.plan_record.specs.Record.{plan_lanes}
use Rattle.script.specs.Script.{stage_sections}
use Rattle.script_sections.proofs.parts.write_stages.Given as goal

abbrev pub invariant-loop-s : goal.invariant-loop-s
invariant-loop-s l =
    take (20 * (plan_lanes l.part.d.now * (l.s + 1))) l.out ≡ stage_sections (plan_lanes l.part.d.now) l.part.d.now l.part.p (l.s + 1)
