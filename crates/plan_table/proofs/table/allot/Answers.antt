-- `plan_blocks::table::allot` meets its contract.
-- Assumes nothing.
use mathlib.Core.Path.{refl, sym, ◌∙◌}
use mathlib.Core.Bool.{false}
use Rattle.words.proofs.TestLaws.{not_both}
use Rattle.plan_table.proofs.AllPartsLaws.{tallied, room_tabled, room_counted, room_full}
use Rattle.plan_table.proofs.table.allot.Goals as goal

pub totals_fit-requires : goal.totals_fit-requires
totals_fit-requires c =
    tallied _ _ _ c.requires.0 c.fill_counts.ensures

pub allot_stages-requires : goal.allot_stages-requires
allot_stages-requires c =
    record { tallied = tallied _ _ _ c.requires.0 c.fill_counts.ensures; totals = sym c.totals_fit.ensures ∙ c.if-totals_fit.true }

pub returns-then-totals_fit : goal.returns-then-totals_fit
returns-then-totals_fit c =
    let f = sym c.if-totals_fit.true ∙ c.totals_fit.ensures in
    record { value = f; room_after = room_full _ _ _ c.requires.0 c.fill_counts.ensures _ c.allot_stages.ensures (sym f); tabled = λ q. room_tabled _ _ _ c.requires.0 c.fill_counts.ensures _ c.allot_stages.ensures }

pub returns : goal.returns
returns c =
    let f = sym c.if-totals_fit.false ∙ c.totals_fit.ensures in
    record { value = f; room_after = room_counted _ _ _ c.requires.0 c.fill_counts.ensures (sym f); tabled = λ q. absurd (not_both false q refl) }
