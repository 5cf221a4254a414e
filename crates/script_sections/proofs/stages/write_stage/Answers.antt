-- The entries are lent, the masks are worked out lane by lane.
-- Assumes nothing.
use Rattle.std.proofs.Common.{rules}
use Rattle.plan_record.specs.Record.{plan_lanes}
use Rattle.script.specs.Script.{stage_entry, stage_section, xora_bit, xorb_bit, orb_bit, mask_word}
use Rattle.script.proofs.SectionsLaws.{section_held, section_room}
use Rattle.script_sections.proofs.stages.write_stage.Goals as goal

pub write_section-requires-clause-room : goal.write_section-requires-clause-room
write_section-requires-clause-room c =
    let of = c.args.part.now.of in
    section_room _ _ of.lanes of.laid.lanes (stage_entry (plan_lanes c.args.part.now.d.now) c.args.part.now.d.now c.args.part.now.p c.args.s) _ _ c.requires.2.is c.requires.2.small c.requires.3

pub write_section-requires-clause-askable : goal.write_section-requires-clause-askable
write_section-requires-clause-askable c = λ w h. (c.requires.0, c.requires.1, h)

pub returns : goal.returns
unfolding stage_section
returns c =
    let d = c.args.part.now.d.now in
    let p = c.args.part.now.p in
    section_held _ _ c.args.part.now.of.lanes _ _ (mask_word (xora_bit d p c.args.s)) (mask_word (xorb_bit d p c.args.s)) (mask_word (orb_bit d p c.args.s)) _ (c.write_section.ensures _ _ _ (λ w h x e. search rules)) c.requires.2.is
