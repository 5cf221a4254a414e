-- A refused plan leaves the slices as they are; an accepted one is built.
-- Assumes nothing.
use mathlib.Core.Path.{ap, ◌∙◌}
use native.Mathlib.Omega.{arith}
use lib.ListN.{length}
use Rattle.plan_record.specs.Record.{plan_lanes}
use Rattle.words.specs.Answer.{Answer}
use Rattle.plan_refusals.specs.Refusals.{plan_verdict}
use Rattle.flatten.specs.FlattenedAnswer.{flattened_of}
use Rattle.script_assembly.specs.Assembly.{script_starts, script_words}
use Rattle.flatten.specs.Flatten.{Sizes, piece_sizes, laid}
use Rattle.std.proofs.lemmas.Result.{err_from_is_err_and}
use Rattle.plan_checks.proofs.VerdictLaws.{went_on}
use Rattle.flatten.proofs.BuildAnswerLaws.{sound, refused_sized, refused_built, refused_kept, accepted_building, cleared_room}
use Rattle.flatten.proofs.build_flattened_script_v1.Goals as goal

pub check_plan-requires : goal.check_plan-requires
check_plan-requires c =
    record { keys-room = omega arith; scratch-room = omega arith; set_room = omega arith }

pub build_accepted-requires : goal.build_accepted-requires
build_accepted-requires c =
    let e = went_on (plan_verdict c.args.plan.now (length c.args.room.now)) _ c.in_ok-check_plan.ensures.value in (
      sound c.args.plan.now c.args.room.now e c.check_plan.new.room (c.check_plan.ensures.plan_ready e),
      record {
        keys-room = omega (arith, c.check_plan.auto.keys);
        scratch-room = omega (arith, c.check_plan.auto.scratch);
        set_room = omega (arith, c.check_plan.auto.set);
      },
    )

pub shape_of-room-in_err-check_plan : goal.shape_of-room-in_err-check_plan
shape_of-room-in_err-check_plan c =
    c.check_plan.auto.room

pub returns-in_err-check_plan : goal.returns-in_err-check_plan
returns-in_err-check_plan c =
    let q = c.in_err-check_plan.ensures.value in
    let p = err_from_is_err_and c.from_residual.result c.from_residual.ensures.1 in
    record {
      value = rw (p.1, p.2) (refused_built c.args.plan.now c.args.room.now _ q c.check_plan.new.room c.check_plan.ensures.room_after c.args.starts.now c.args.words.now c.args.pieces.now);
      room_after = (refused_sized c.args.plan.now c.args.room.now _ q c.check_plan.new.room c.check_plan.ensures.room_after).1;
      starts_after = refused_kept c.args.plan.now c.args.room.now _ q c.check_plan.new.room c.check_plan.ensures.room_after c.args.starts.now c.args.words.now c.args.pieces.now (script_starts (plan_lanes c.args.plan.now) c.args.plan.now) c.args.starts.now;
      words_after = refused_kept c.args.plan.now c.args.room.now _ q c.check_plan.new.room c.check_plan.ensures.room_after c.args.starts.now c.args.words.now c.args.pieces.now (script_words (plan_lanes c.args.plan.now) c.args.plan.now) c.args.words.now;
      pieces_after = refused_kept c.args.plan.now c.args.room.now _ q c.check_plan.new.room c.check_plan.ensures.room_after c.args.starts.now c.args.words.now c.args.pieces.now (piece_sizes (plan_lanes c.args.plan.now) c.args.plan.now) c.args.pieces.now;
    }

pub shape_of-room : goal.shape_of-room
shape_of-room c =
    c.build_accepted.auto.room ∙ c.check_plan.auto.room

pub shape_of-starts : goal.shape_of-starts
shape_of-starts c =
    c.build_accepted.auto.starts

pub shape_of-words : goal.shape_of-words
shape_of-words c =
    c.build_accepted.auto.words

pub shape_of-pieces : goal.shape_of-pieces
shape_of-pieces c =
    c.build_accepted.auto.pieces

pub returns : goal.returns
returns c =
    let e = went_on (plan_verdict c.args.plan.now (length c.args.room.now)) _ c.in_ok-check_plan.ensures.value in
    let k = accepted_building c.args.plan.now c.args.room.now e (length c.args.starts.now) (length c.args.words.now) (length c.args.pieces.now) in
    record {
      value = c.build_accepted.ensures.value ∙ ap flattened_of k;
      room_after = cleared_room c.args.plan.now c.args.room.now e _ _ c.check_plan.auto.room c.build_accepted.ensures.room_after;
      starts_after = c.build_accepted.ensures.starts_after ∙ ap (λ (x : Answer Sizes). laid x (script_starts (plan_lanes c.args.plan.now) c.args.plan.now) c.args.starts.now) k;
      words_after = c.build_accepted.ensures.words_after ∙ ap (λ (x : Answer Sizes). laid x (script_words (plan_lanes c.args.plan.now) c.args.plan.now) c.args.words.now) k;
      pieces_after = c.build_accepted.ensures.pieces_after ∙ ap (λ (x : Answer Sizes). laid x (piece_sizes (plan_lanes c.args.plan.now) c.args.plan.now) c.args.pieces.now) k;
    }
