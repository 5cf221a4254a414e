-- Each step ends it, or is passed.
-- Assumes nothing.
use Rattle.std.proofs.Common.{ap, ◌∙◌}
use Rattle.words.specs.Edition.{known}
use Rattle.plan_record.specs.Record.{edition_of}
use Rattle.plan_record.specs.Form.{plan_form}
use Rattle.plan_gates.specs.Gates.{bad_gate}
use Rattle.plan_counts.specs.Counts.{refusal7}
use Rattle.plan_refusals.specs.Refusals.{gate_place}
use Rattle.std.proofs.lemmas.Result.{err_from_is_err_and}
use Rattle.plan_checks.proofs.VerdictLaws.{unless_told, at_told, held, went_past}
use Rattle.plan_checks.proofs.RefusalPlaceLaws.{list_told, lowest_told, few_same, few7}
use Rattle.plan_checks.proofs.RefusalGroupLaws.{list_edition, list_five, list_six, list_seven}
use Rattle.plan_checks.proofs.lists.check_lists.Goals as goal

pub returns-in_err-of_test : goal.returns-in_err-of_test
returns-in_err-of_test c =
    let d = c.args.plan.now in
    let named = c.is_edition.ensures ∙ ap known c.edition_of.ensures in
    let p = err_from_is_err_and c.from_residual.result c.from_residual.ensures.1 in
    rw (p.1, p.2) (list_edition d _ (unless_told 29 _ (known (edition_of d)) _ named (rw c.number.ensures at c.in_err-of_test.ensures)))

pub returns-in_err-of_test-2 : goal.returns-in_err-of_test-2
returns-in_err-of_test-2 c =
    let d = c.args.plan.now in
    let named = c.is_edition.ensures ∙ ap known c.edition_of.ensures in
    let edition = held 29 _ _ (unless_told 29 _ (known (edition_of d)) _ named (rw c.number.ensures at c.in_ok-of_test.ensures)) in
    let p = err_from_is_err_and c.from_residual-in_err-of_test-2.result c.from_residual-in_err-of_test-2.ensures.1 in
    rw (p.1, p.2) (list_five d _ edition (unless_told 5 _ (plan_form d) _ c.plan_form.ensures (rw c.number-2.ensures at c.in_err-of_test-2.ensures)))

pub returns-in_err-of_gates : goal.returns-in_err-of_gates
returns-in_err-of_gates c =
    let d = c.args.plan.now in
    let named = c.is_edition.ensures ∙ ap known c.edition_of.ensures in
    let edition = held 29 _ _ (unless_told 29 _ (known (edition_of d)) _ named (rw c.number.ensures at c.in_ok-of_test.ensures)) in
    let form = held 5 _ _ (unless_told 5 _ (plan_form d) _ c.plan_form.ensures (rw c.number-2.ensures at c.in_ok-of_test-2.ensures)) in
    let p = err_from_is_err_and c.from_residual-in_err-of_gates.result c.from_residual-in_err-of_gates.ensures.1 in
    rw (p.1, p.2) (list_six d _ edition form (at_told 6 _ (gate_place (bad_gate d)) _ (list_told (bad_gate d) _ c.check_gates.ensures) c.in_err-of_gates.ensures))

pub check_counts-requires : goal.check_counts-requires
check_counts-requires c =
    let form = held 5 _ _ (unless_told 5 _ (plan_form c.args.plan.now) _ c.plan_form.ensures (rw c.number-2.ensures at c.in_ok-of_test-2.ensures)) in
    (form, c.requires.0, c.requires.1)

pub of_lowest-requires : goal.of_lowest-requires
of_lowest-requires c =
    let d = c.args.plan.now in
    let form = held 5 _ _ (unless_told 5 _ (plan_form d) _ c.plan_form.ensures (rw c.number-2.ensures at c.in_ok-of_test-2.ensures)) in
    few_same (refusal7 d) _ (lowest_told _ _ c.check_counts.ensures) (few7 d form)

pub returns : goal.returns
returns c =
    let d = c.args.plan.now in
    let named = c.is_edition.ensures ∙ ap known c.edition_of.ensures in
    let edition = held 29 _ _ (unless_told 29 _ (known (edition_of d)) _ named (rw c.number.ensures at c.in_ok-of_test.ensures)) in
    let form = held 5 _ _ (unless_told 5 _ (plan_form d) _ c.plan_form.ensures (rw c.number-2.ensures at c.in_ok-of_test-2.ensures)) in
    let gates = went_past 6 _ _ (at_told 6 _ (gate_place (bad_gate d)) _ (list_told (bad_gate d) _ c.check_gates.ensures) c.in_ok-of_gates.ensures) in
    list_seven d _ edition form gates (at_told 7 _ (refusal7 d) _ (lowest_told (refusal7 d) _ c.check_counts.ensures) (rw c.number-3.ensures at c.of_lowest.ensures))
