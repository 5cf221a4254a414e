-- `repair::purge_over` meets its contract: 5, and the count list entered.
-- Assumes nothing.
use mathlib.Core.Path.{sym, ◌∙◌}
use lib.ListN.{length}
use Rattle.repair_nodes.specs.CountList.{counts_right}
use Rattle.repair_nodes.specs.RepairAnswer.{place_right}
use Rattle.repair_tally.proofs.TallyStepLaws.{told_true, told_false}
use Rattle.repair_settle.proofs.EndLaws.{refused_end}
use Rattle.repair.proofs.CountFormLaws.{entered_true, entered_false}
use Rattle.repair.proofs.RepairAnswerLaws.{clear_5, clear_on}
use Rattle.repair.proofs.RepairWholeLaws.{place_parts, both_place, both_counts, both_right}
use Rattle.repair.proofs.purge_over.Goals as goal

pub purge_at-requires : goal.purge_at-requires
purge_at-requires c =
    let p = sym c.place_form.ensures ∙ c.if-not-place_form.false in
    let w = told_true _ _ _ c.check_counts.ensures c.if-not-check_counts.false in
    let e = entered_true c.args.counts.now c.args.map.now c.requires.0 c.requires.1 c.check_counts.new.map c.check_counts.auto.map (λ i. (c.type_inv.counts i).fits) w in
    let (h, j) = place_parts c.args.height c.args.level c.args.slot p in
    (c.requires.2, h, j, e.1)

pub returns : goal.returns
returns c =
    let p = sym c.place_form.ensures ∙ c.if-not-place_form.false in
    let w = told_true _ _ _ c.check_counts.ensures c.if-not-check_counts.false in
    let e = entered_true c.args.counts.now c.args.map.now c.requires.0 c.requires.1 c.check_counts.new.map c.check_counts.auto.map (λ i. (c.type_inv.counts i).fits) w in
    rw (clear_on c.args.height c.args.counts.now c.args.slots.now (length c.args.after.now) c.args.level c.args.slot (both_right (place_right c.args.height c.args.level c.args.slot) (counts_right c.args.counts.now) p e.0)) c.purge_at.ensures

pub returns-then-not-check_counts : goal.returns-then-not-check_counts
returns-then-not-check_counts c =
    let w = told_false _ _ _ c.check_counts.ensures c.if-not-check_counts.true in
    let e = entered_false c.args.counts.now c.args.map.now c.requires.0 c.requires.1 w in
    refused_end _ _ _ c.args.slots.now c.args.after.now (clear_5 c.args.height c.args.counts.now c.args.slots.now (length c.args.after.now) c.args.level c.args.slot (both_counts (place_right c.args.height c.args.level c.args.slot) (counts_right c.args.counts.now) e))
    c.nowhere-then-not-check_counts.ensures

pub returns-then-not-place_form : goal.returns-then-not-place_form
returns-then-not-place_form c =
    let p = sym c.place_form.ensures ∙ c.if-not-place_form.true in
    refused_end _ _ _ c.args.slots.now c.args.after.now (clear_5 c.args.height c.args.counts.now c.args.slots.now (length c.args.after.now) c.args.level c.args.slot (both_place (place_right c.args.height c.args.level c.args.slot) (counts_right c.args.counts.now) p)) c.nowhere.ensures
