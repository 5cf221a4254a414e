-- One law for each way out.
-- Assumes nothing.
use Rattle.script.proofs.LaterEntryLaws.{entry_empty, entry_found, entry_missing}
use Rattle.script_sections.proofs.stages.later_entry.Goals as goal

pub returns-then-pin : goal.returns-then-pin
returns-then-pin c =
    entry_empty c.args.part.now.d.now c.args.part.now.p c.args.s c.args.i _ c.level_slot-pin.ensures c.if-pin.true

pub returns-in-Some : goal.returns-in-Some
returns-in-Some c =
    entry_found c.args.part.now.d.now c.args.part.now.p c.args.s c.args.i _ c.level_slot-pin.ensures c.if-pin.false c.args.table.now c.requires.2 _ c.look_up.ensures _ c.in-Some.is

pub returns-in-None : goal.returns-in-None
returns-in-None c =
    entry_missing c.args.part.now.d.now c.args.part.now.p c.args.s c.args.i _ c.level_slot-pin.ensures c.if-pin.false c.args.table.now c.requires.2 _ c.look_up.ensures c.in-None.is
