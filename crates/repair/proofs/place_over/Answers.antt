-- `repair::place_over` meets its contract: 5 and 6 in their order, and the count list entered.
-- Assumes nothing.
use mathlib.Core.Path.{sym, ◌∙◌}
use Prim.Native.Nat.{◌^◌, ◌≤◌}
use native.Mathlib.Omega.{arith}
use lib.ListN.{length}
use Rattle.repair_nodes.specs.CountList.{counts_right}
use Rattle.repair_nodes.specs.RepairAnswer.{place_right}
use Rattle.repair_tally.proofs.TallyStepLaws.{told_true, told_false}
use Rattle.repair_settle.proofs.EndLaws.{refused_end}
use Rattle.repair.proofs.CountFormLaws.{entered_true, entered_false}
use Rattle.repair.proofs.RepairAnswerLaws.{place_5, place_6, place_on}
use Rattle.repair.proofs.RepairWholeLaws.{place_parts, form_pin, form_place, form_counts, form_right}
use Rattle.words.proofs.FoundLaws.{item_some, item_none}
use Rattle.repair.proofs.place_over.Goals as goal

pub returns-then-node-gt1073741824 : goal.returns-then-node-gt1073741824
returns-then-node-gt1073741824 c =
    refused_end _ _ _ c.args.slots.now c.args.after.now (place_5 c.args.height c.args.gates.now c.args.levels.now c.args.counts.now c.args.slots.now (length c.args.after.now) c.args.level c.args.slot c.args.node.0
    (form_pin (place_right c.args.height c.args.level c.args.slot) (counts_right c.args.counts.now) c.args.node.0 (omega arith))) c.nowhere.ensures

pub place_at-requires : goal.place_at-requires
place_at-requires c =
    let p = sym c.place_form.ensures ∙ c.if-not-place_form.false in
    let w = told_true _ _ _ c.check_counts.ensures c.if-not-check_counts.false in
    let e = entered_true c.args.counts.now c.args.map.now c.requires.0 c.requires.1 c.check_counts.new.map c.check_counts.auto.map (λ i. (c.type_inv.counts i).fits) w in
    let n : c.args.node.0 ≤ 2 ^ 30 = omega (arith, c.if-node-gt1073741824.false) in
    let (h, j) = place_parts c.args.height c.args.level c.args.slot p in
    (item_none _ (sym c.check_list.ensures ∙ c.in_default.is), c.requires.2, h, j, n, e.1)

pub returns-in-Some : goal.returns-in-Some
returns-in-Some c =
    let p = sym c.place_form.ensures ∙ c.if-not-place_form.false in
    let w = told_true _ _ _ c.check_counts.ensures c.if-not-check_counts.false in
    let e = entered_true c.args.counts.now c.args.map.now c.requires.0 c.requires.1 c.check_counts.new.map c.check_counts.auto.map (λ i. (c.type_inv.counts i).fits) w in
    let n : c.args.node.0 ≤ 2 ^ 30 = omega (arith, c.if-node-gt1073741824.false) in
    let b = item_some _ _ (sym c.check_list.ensures ∙ c.in-Some.is) in
    refused_end _ _ _ c.args.slots.now c.args.after.now
    (place_6 c.args.height c.args.gates.now c.args.levels.now c.args.counts.now c.args.slots.now (length c.args.after.now) c.args.level c.args.slot c.args.node.0 (form_right (place_right c.args.height c.args.level c.args.slot) (counts_right c.args.counts.now) c.args.node.0 p n e.0) c.in-Some.g b)
    c.at_item.ensures

pub returns : goal.returns
returns c =
    let p = sym c.place_form.ensures ∙ c.if-not-place_form.false in
    let w = told_true _ _ _ c.check_counts.ensures c.if-not-check_counts.false in
    let e = entered_true c.args.counts.now c.args.map.now c.requires.0 c.requires.1 c.check_counts.new.map c.check_counts.auto.map (λ i. (c.type_inv.counts i).fits) w in
    let n : c.args.node.0 ≤ 2 ^ 30 = omega (arith, c.if-node-gt1073741824.false) in
    let b = item_none _ (sym c.check_list.ensures ∙ c.in_default.is) in
    rw (place_on c.args.height c.args.gates.now c.args.levels.now c.args.counts.now c.args.slots.now (length c.args.after.now) c.args.level c.args.slot c.args.node.0
    (form_right (place_right c.args.height c.args.level c.args.slot) (counts_right c.args.counts.now) c.args.node.0 p n e.0) b) c.place_at.ensures

pub returns-then-not-check_counts : goal.returns-then-not-check_counts
returns-then-not-check_counts c =
    let w = told_false _ _ _ c.check_counts.ensures c.if-not-check_counts.true in
    let e = entered_false c.args.counts.now c.args.map.now c.requires.0 c.requires.1 w in
    refused_end _ _ _ c.args.slots.now c.args.after.now (place_5 c.args.height c.args.gates.now c.args.levels.now c.args.counts.now c.args.slots.now (length c.args.after.now) c.args.level c.args.slot c.args.node.0
    (form_counts (place_right c.args.height c.args.level c.args.slot) (counts_right c.args.counts.now) c.args.node.0 e)) c.nowhere-then-not-check_counts.ensures

pub returns-then-not-place_form : goal.returns-then-not-place_form
returns-then-not-place_form c =
    let p = sym c.place_form.ensures ∙ c.if-not-place_form.true in
    refused_end _ _ _ c.args.slots.now c.args.after.now (place_5 c.args.height c.args.gates.now c.args.levels.now c.args.counts.now c.args.slots.now (length c.args.after.now) c.args.level c.args.slot c.args.node.0
    (form_place (place_right c.args.height c.args.level c.args.slot) (counts_right c.args.counts.now) c.args.node.0 p)) c.nowhere-then-not-place_form.ensures
