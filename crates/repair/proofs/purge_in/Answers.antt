-- `repair::purge_in` meets its contract: 29, else a clearing with the levels of the edition.
-- Assumes nothing.
use mathlib.Core.Path.{sym, ◌∙◌}
use lib.ListN.{length}
use Rattle.words.proofs.EditionLaws.{known_number, levels_most}
use Rattle.repair_settle.proofs.EndLaws.{refused_end}
use Rattle.repair.proofs.RepairAnswerLaws.{clear_29, clear_known}
use Rattle.repair.proofs.purge_in.Goals as goal

pub returns-then-not-is_edition : goal.returns-then-not-is_edition
returns-then-not-is_edition c =
    let unknown = sym c.is_edition.ensures ∙ c.if-not-is_edition.true in
    refused_end _ _ _ c.args.slots.now c.args.after.now (clear_29 c.args.edition c.args.counts.now c.args.slots.now (length c.args.after.now) c.args.level c.args.slot (length c.args.map.now) c.requires.1 unknown) c.nowhere.ensures

pub purge_over-requires : goal.purge_over-requires
purge_over-requires c =
    let known = sym c.is_edition.ensures ∙ c.if-not-is_edition.false in
    (c.requires.0, c.requires.1, rw c.levels_for-height.ensures (levels_most _ (known_number _ known)))

pub returns : goal.returns
returns c =
    let known = sym c.is_edition.ensures ∙ c.if-not-is_edition.false in
    rw (clear_known c.args.edition c.args.counts.now c.args.slots.now (length c.args.after.now) c.args.level c.args.slot (length c.args.map.now) c.requires.1 known) (rw c.levels_for-height.ensures at c.purge_over.ensures)
