-- A refused plan is answered by its refusal; an accepted one by its sizes.
-- Assumes nothing.
use Rattle.std.proofs.Common.{Ok, length, ap, ◌∙◌, arith}
use Rattle.std.proofs.lemmas.Result.{err_from_is_err_and}
use Rattle.plan_checks.proofs.VerdictLaws.{went_on}
use Rattle.plan_refusals.specs.Refusals.{plan_verdict}
use Rattle.flatten.specs.FlattenedAnswer.{flattened_of}
use Rattle.flatten.proofs.BuildAnswerLaws.{sound, refused_sized, accepted_sizing, cleared_room}
use Rattle.flatten.proofs.plan_sizes.Goals as goal

pub check_plan-requires : goal.check_plan-requires
check_plan-requires c =
    record { keys-room = omega arith; scratch-room = omega arith; set_room = omega arith }

pub shape_of-room-in_err-check_plan : goal.shape_of-room-in_err-check_plan
shape_of-room-in_err-check_plan c = c.check_plan.auto.room

pub returns-in_err-check_plan : goal.returns-in_err-check_plan
returns-in_err-check_plan c =
    let told = refused_sized c.args.plan.now c.args.room.now _ c.in_err-check_plan.ensures.value c.check_plan.new.room c.check_plan.ensures.room_after in
    let p = err_from_is_err_and c.from_residual.result c.from_residual.ensures.1 in
    record { value = rw (p.1, p.2) told.0; room_after = told.1 }

pub size_accepted-requires : goal.size_accepted-requires
size_accepted-requires c =
    let e = went_on (plan_verdict c.args.plan.now (length c.args.room.now)) _ c.in_ok-check_plan.ensures.value in
    sound c.args.plan.now c.args.room.now e c.check_plan.new.room (c.check_plan.ensures.plan_ready e)

pub shape_of-room : goal.shape_of-room
shape_of-room c = c.size_accepted.auto.room ∙ c.check_plan.auto.room

pub returns : goal.returns
returns c =
    let e = went_on (plan_verdict c.args.plan.now (length c.args.room.now)) _ c.in_ok-check_plan.ensures.value in
    record {
      value = ap Ok c.size_accepted.ensures.value ∙ ap flattened_of (accepted_sizing c.args.plan.now c.args.room.now e);
      room_after = cleared_room c.args.plan.now c.args.room.now e _ _ c.check_plan.auto.room c.size_accepted.ensures.room_after;
    }
