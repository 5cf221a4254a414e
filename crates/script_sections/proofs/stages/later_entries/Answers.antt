use Rattle.std.proofs.Common.{◌+◌, arith}
use Rattle.plan_record.specs.Record.{plan_lanes}
use Rattle.script.specs.Script.{stage_entry}
use Rattle.script.proofs.FilledSliceLaws.{fill_none, fill_more, fill_end}
use Rattle.script_sections.proofs.stages.later_entries.Goals as goal

pub loop-i-init : goal.loop-i-init
loop-i-init c = fill_none _

pub loop-i-preserved : goal.loop-i-preserved
loop-i-preserved c =
    fill_more (stage_entry (plan_lanes c.args.part.now.d.now) c.args.part.now.d.now c.args.part.now.p (c.args.s + 1)) c.loop-i.entries c.loop-i.i _ (omega arith) c.later_entry.ensures c.loop-i.invariant

pub returns : goal.returns
returns c = fill_end _ c.loop-i.entries c.loop-i.i _ (omega arith) (omega arith) (omega arith) c.loop-i.invariant
