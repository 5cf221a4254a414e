-- Each step ends it, or is passed; none changes the room.
-- Assumes nothing.
use Rattle.std.proofs.Common.{refl, ◌∙◌}
use Rattle.plan_slots.specs.Slots.{refusal9, refusal10, refusal11}
use Rattle.std.proofs.lemmas.Result.{err_from_is_err_and}
use Rattle.plan_checks.proofs.VerdictLaws.{at_told, went_past}
use Rattle.plan_checks.proofs.RefusalPlaceLaws.{lowest_told, few_same, few9, few10, few11}
use Rattle.plan_checks.proofs.RefusalGroupLaws.{pin_nine, pin_ten, pin_eleven}
use Rattle.plan_checks.proofs.CheckedRoomLaws.{lent_same}
use Rattle.plan_checks.proofs.pins.check_pins.Goals as goal

pub of_lowest-requires : goal.of_lowest-requires
of_lowest-requires c =
    few_same (refusal9 c.args.plan.now) _ (lowest_told _ _ c.refusal9.ensures) (few9 c.args.plan.now c.requires.0)

pub returns-in_err-of_lowest : goal.returns-in_err-of_lowest
returns-in_err-of_lowest c =
    let d = c.args.plan.now in
    record {
      value = (let p = err_from_is_err_and c.from_residual.result c.from_residual.ensures.1 in rw (p.1, p.2) (pin_nine d _ (at_told 9 _ (refusal9 d) _ (lowest_told (refusal9 d) _ c.refusal9.ensures) (rw c.number.ensures at c.in_err-of_lowest.ensures))));
      room_unchanged = refl;
    }

pub of_lowest-requires-2 : goal.of_lowest-requires-2
of_lowest-requires-2 c =
    few_same (refusal10 c.args.plan.now) _ (lowest_told _ _ c.later_pins.ensures.value) (few10 c.args.plan.now c.requires.0)

pub returns-in_err-of_lowest-2 : goal.returns-in_err-of_lowest-2
returns-in_err-of_lowest-2 c =
    let d = c.args.plan.now in
    let nine = went_past 9 _ _ (at_told 9 _ (refusal9 d) _ (lowest_told (refusal9 d) _ c.refusal9.ensures) (rw c.number.ensures at c.in_ok-of_lowest.ensures)) in
    let told = rw c.number-2.ensures at c.in_err-of_lowest-2.ensures in
    record {
      value = (let p = err_from_is_err_and c.from_residual-in_err-of_lowest-2.result c.from_residual-in_err-of_lowest-2.ensures.1 in rw (p.1, p.2) (pin_ten d _ nine (at_told 10 _ (refusal10 d) _ (lowest_told (refusal10 d) _ c.later_pins.ensures.value) told)));
      room_unchanged = c.later_pins.ensures.room_unchanged;
    }

pub computed_pins-requires : goal.computed_pins-requires
computed_pins-requires c =
    (c.requires.0, lent_same c.args.plan.now c.args.room.now _ c.requires.2 c.later_pins.ensures.room_unchanged)

pub of_lowest-requires-3 : goal.of_lowest-requires-3
of_lowest-requires-3 c =
    few_same (refusal11 c.args.plan.now) _ (lowest_told _ _ c.computed_pins.ensures.value) (few11 c.args.plan.now c.requires.0)

pub returns : goal.returns
returns c =
    let d = c.args.plan.now in
    let nine = went_past 9 _ _ (at_told 9 _ (refusal9 d) _ (lowest_told (refusal9 d) _ c.refusal9.ensures) (rw c.number.ensures at c.in_ok-of_lowest.ensures)) in
    let ten = went_past 10 _ _ (at_told 10 _ (refusal10 d) _ (lowest_told (refusal10 d) _ c.later_pins.ensures.value) (rw c.number-2.ensures at c.in_ok-of_lowest-2.ensures)) in
    record {
      value = pin_eleven d _ nine ten (at_told 11 _ (refusal11 d) _ (lowest_told (refusal11 d) _ c.computed_pins.ensures.value) (rw c.number-3.ensures at c.of_lowest-3.ensures));
      room_unchanged = c.computed_pins.ensures.room_unchanged ∙ c.later_pins.ensures.room_unchanged;
    }
