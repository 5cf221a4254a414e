-- `repair::place_in` meets its contract: 29, else a placing with the levels of the edition.
-- Assumes nothing.
use mathlib.Core.Path.{sym, ◌∙◌}
use lib.ListN.{length}
use Rattle.words.proofs.EditionLaws.{known_number, levels_most}
use Rattle.repair_settle.proofs.EndLaws.{refused_end}
use Rattle.repair.proofs.RepairAnswerLaws.{place_29, place_known}
use Rattle.repair.proofs.place_in.Goals as goal

pub returns-then-not-is_edition : goal.returns-then-not-is_edition
returns-then-not-is_edition c =
    let unknown = sym c.is_edition.ensures ∙ c.if-not-is_edition.true in
    refused_end _ _ _ c.args.slots.now c.args.after.now (place_29 c.args.edition c.args.gates.now c.args.levels.now c.args.counts.now c.args.slots.now (length c.args.after.now) c.args.level c.args.slot c.args.node.0 (length c.args.map.now) c.requires.1 unknown) c.nowhere.ensures

pub place_over-requires : goal.place_over-requires
place_over-requires c =
    let known = sym c.is_edition.ensures ∙ c.if-not-is_edition.false in
    (c.requires.0, c.requires.1, rw c.levels_for-height.ensures (levels_most _ (known_number _ known)))

pub returns : goal.returns
returns c =
    let known = sym c.is_edition.ensures ∙ c.if-not-is_edition.false in
    rw (place_known c.args.edition c.args.gates.now c.args.levels.now c.args.counts.now c.args.slots.now (length c.args.after.now) c.args.level c.args.slot c.args.node.0 (length c.args.map.now) c.requires.1 known) (rw c.levels_for-height.ensures at c.place_over.ensures)
