-- The entries come from the table of the stage before.
-- Assumes nothing.
use Rattle.plan_slots.proofs.PutLaws.{filled_with}
use Rattle.script.proofs.LaterEntryLaws.{entry_small}
use Rattle.script_sections.proofs.stages.write_later.Goals as goal

pub later_entries-requires : goal.later_entries-requires
later_entries-requires c =
    (c.requires.0, c.requires.1, filled_with c.args.table.now _ _ c.requires.2 c.fill_positions.ensures, c.requires.4)

pub write_stage-requires : goal.write_stage-requires
write_stage-requires c =
    (c.requires.0, c.requires.1, record { is = c.later_entries.ensures; small = λ i l. entry_small c.args.part.now.d.now c.args.part.now.p c.args.s i }, c.requires.3)
