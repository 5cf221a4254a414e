-- Each group ends it, or is passed; the room has the part table from 8 on.
-- Assumes nothing.
use Rattle.std.proofs.Common.{◌∙◌, arith}
use Rattle.std.proofs.lemmas.Result.{err_from_is_err_and}
use Rattle.plan_refusals.specs.RefusalGroups.{list_refusal, total_refusal, pin_refusal, place_refusal}
use Rattle.plan_refusals.specs.Refusals.{plan_refusal}
use Rattle.plan_refusals.proofs.PassedLaws.{lists_passed}
use Rattle.plan_checks.proofs.VerdictLaws.{went_on, never}
use Rattle.plan_checks.proofs.RefusalGroupLaws.{plan_lists, plan_totals, plan_pins, plan_places, plan_reads}
use Rattle.plan_checks.proofs.CheckedRoomLaws.{may_fill, stays_clear, may_judge, may_search, room_ready}
use Rattle.plan_checks.proofs.check_all.Goals as goal

pub returns-in_err-check_lists : goal.returns-in_err-check_lists
returns-in_err-check_lists c =
    let is = plan_lists c.args.plan.now _ c.in_err-check_lists.ensures in
    let p = err_from_is_err_and c.from_residual.result c.from_residual.ensures.1 in
    record { value = rw (p.1, p.2) is; room_after = λ e. never (plan_refusal c.args.plan.now) _ is e }

pub check_totals-requires : goal.check_totals-requires
check_totals-requires c =
    let lists = went_on (list_refusal c.args.plan.now) _ c.in_ok-check_lists.ensures in (
      may_fill c.args.plan.now c.args.room.now c.requires.0 lists,
      omega (arith, c.check_lists.auto.keys, c.requires.1.keys-room),
      omega (arith, c.check_lists.auto.scratch, c.requires.1.scratch-room),
    )

pub returns-in_err-check_totals : goal.returns-in_err-check_totals
returns-in_err-check_totals c =
    let d = c.args.plan.now in
    let lists = went_on (list_refusal d) _ c.in_ok-check_lists.ensures in
    let is = plan_totals d lists _ c.in_err-check_totals.ensures.value in
    let p = err_from_is_err_and c.from_residual-in_err-check_totals.result c.from_residual-in_err-check_totals.ensures.1 in
    record { value = rw (p.1, p.2) is; room_after = λ e. never (plan_refusal d) _ is e }

pub check_pins-requires : goal.check_pins-requires
check_pins-requires c =
    let d = c.args.plan.now in
    let lists = went_on (list_refusal d) _ c.in_ok-check_lists.ensures in
    let totals = went_on (total_refusal d) _ c.in_ok-check_totals.ensures.value in
    let l = lists_passed d lists in
    (l.0, l.1, stays_clear d c.args.room.now c.requires.0 lists totals _ c.check_totals.ensures.room_after)

pub returns-in_err-check_pins : goal.returns-in_err-check_pins
returns-in_err-check_pins c =
    let d = c.args.plan.now in
    let lists = went_on (list_refusal d) _ c.in_ok-check_lists.ensures in
    let totals = went_on (total_refusal d) _ c.in_ok-check_totals.ensures.value in
    let is = plan_pins d lists totals _ c.in_err-check_pins.ensures.value in
    let p = err_from_is_err_and c.from_residual-in_err-check_pins.result c.from_residual-in_err-check_pins.ensures.1 in
    record { value = rw (p.1, p.2) is; room_after = λ e. never (plan_refusal d) _ is e }

pub check_places-requires : goal.check_places-requires
check_places-requires c =
    let d = c.args.plan.now in
    let lists = went_on (list_refusal d) _ c.in_ok-check_lists.ensures in
    let totals = went_on (total_refusal d) _ c.in_ok-check_totals.ensures.value in (
      may_judge d c.args.room.now c.requires.0 lists totals _ (c.check_pins.ensures.room_unchanged ∙ c.check_totals.ensures.room_after),
      omega (arith, c.check_totals.auto.keys, c.check_lists.auto.keys, c.requires.1.keys-room),
    )

pub returns-in_err-check_places : goal.returns-in_err-check_places
returns-in_err-check_places c =
    let d = c.args.plan.now in
    let lists = went_on (list_refusal d) _ c.in_ok-check_lists.ensures in
    let totals = went_on (total_refusal d) _ c.in_ok-check_totals.ensures.value in
    let pins = went_on (pin_refusal d) _ c.in_ok-check_pins.ensures.value in
    let is = plan_places d lists totals pins _ c.in_err-check_places.ensures.value in
    let p = err_from_is_err_and c.from_residual-in_err-check_places.result c.from_residual-in_err-check_places.ensures.1 in
    record { value = rw (p.1, p.2) is; room_after = λ e. never (plan_refusal d) _ is e }

pub check_reading-requires : goal.check_reading-requires
check_reading-requires c =
    let d = c.args.plan.now in
    let lists = went_on (list_refusal d) _ c.in_ok-check_lists.ensures in
    let totals = went_on (total_refusal d) _ c.in_ok-check_totals.ensures.value in
    let places = went_on (place_refusal d) _ c.in_ok-check_places.ensures.value in (
      may_search d c.args.room.now c.requires.0 lists totals _ (c.check_places.ensures.room_unchanged ∙ (c.check_pins.ensures.room_unchanged ∙ c.check_totals.ensures.room_after)) places,
      record {
        keys-room = omega (arith, c.check_places.auto.keys, c.check_totals.auto.keys, c.check_lists.auto.keys, c.requires.1.keys-room);
        scratch-room = omega (arith, c.check_totals.auto.scratch, c.check_lists.auto.scratch, c.requires.1.scratch-room);
        set_room = c.requires.1.set_room;
      },
    )

pub returns : goal.returns
returns c =
    let d = c.args.plan.now in
    let lists = went_on (list_refusal d) _ c.in_ok-check_lists.ensures in
    let totals = went_on (total_refusal d) _ c.in_ok-check_totals.ensures.value in
    let pins = went_on (pin_refusal d) _ c.in_ok-check_pins.ensures.value in
    let places = went_on (place_refusal d) _ c.in_ok-check_places.ensures.value in
    record {
      value = plan_reads d lists totals pins _ places c.check_reading.ensures.value;
      room_after = λ e. room_ready d c.args.room.now c.requires.0 lists totals _ (c.check_places.ensures.room_unchanged ∙ (c.check_pins.ensures.room_unchanged ∙ c.check_totals.ensures.room_after)) _ c.check_reading.ensures.room_after e;
    }
