-- The piece sizes and the words are written where the three slices are long enough; else it is refusal 14.
-- Assumes nothing.
use mathlib.Core.Path.{sym, ap, ◌∙◌}
use Prim.Native.Nat.{ℕ}
use lib.ListN.{length, replicate}
use Rattle.plan_record.specs.Record.{plan_lanes}
use Rattle.words.specs.Answer.{nowhere}
use Rattle.script_assembly.specs.Assembly.{script_starts, script_words}
use Rattle.std.specs.Prelude.{Ok, Err}
use Rattle.flatten.specs.Flatten.{sizes_of, piece_sizes}
use Rattle.flatten.specs.FlattenedAnswer.{flattened_of}
use Rattle.flatten.proofs.ScriptSizeLaws.{majors_few}
use Rattle.flatten.proofs.BuildAnswerLaws.{pieces_room, plan_room, long_enough, too_short, laid_built, laid_refused}
use Rattle.flatten.proofs.build_accepted.Goals as goal

pub parts_of-parts-requires : goal.parts_of-parts-requires
parts_of-parts-requires c =
    majors_few c.args.plan.now c.args.room.now c.requires.0

pub write_pieces-requires : goal.write_pieces-requires
write_pieces-requires c =
    (c.requires.0, pieces_room c.args.plan.now (length c.args.starts.now) (length c.args.words.now) (length c.args.pieces.now) c.sizes_of-sizes.result c.sizes_of-sizes.ensures _ c.parts_of-parts.ensures.0 c.enough.result c.enough.ensures c.if-enough.true)

pub write_plan-requires : goal.write_plan-requires
write_plan-requires c =
    (plan_room c.args.plan.now (length c.args.starts.now) (length c.args.words.now) (length c.args.pieces.now) c.sizes_of-sizes.result c.sizes_of-sizes.ensures _ c.parts_of-parts.ensures.0 c.enough.result c.enough.ensures c.args.room.now c.requires.0 c.if-enough.true, c.requires.1)

pub shape_of-room-then-enough : goal.shape_of-room-then-enough
shape_of-room-then-enough c =
    c.clear.auto.l ∙ c.write_plan.auto.room

pub shape_of-starts-then-enough : goal.shape_of-starts-then-enough
shape_of-starts-then-enough c =
    c.write_plan.auto.starts

pub shape_of-words-then-enough : goal.shape_of-words-then-enough
shape_of-words-then-enough c =
    c.write_plan.auto.words

pub shape_of-pieces-then-enough : goal.shape_of-pieces-then-enough
shape_of-pieces-then-enough c =
    c.write_pieces.auto.pieces

pub shape_of-keys-then-enough : goal.shape_of-keys-then-enough
shape_of-keys-then-enough c =
    c.write_plan.auto.keys

pub shape_of-scratch-then-enough : goal.shape_of-scratch-then-enough
shape_of-scratch-then-enough c =
    c.write_plan.auto.scratch

pub shape_of-set-then-enough : goal.shape_of-set-then-enough
shape_of-set-then-enough c =
    c.write_plan.auto.set

pub returns-then-enough : goal.returns-then-enough
returns-then-enough c =
    let e =
    long_enough c.args.plan.now (length c.args.starts.now) (length c.args.words.now) (length c.args.pieces.now) c.sizes_of-sizes.result c.sizes_of-sizes.ensures _ c.parts_of-parts.ensures.0 c.enough.result c.enough.ensures c.if-enough.true in
    record {
      value = ap Ok c.sizes_of-sizes.ensures ∙ sym (ap flattened_of e);
      room_after = c.clear.ensures ∙ ap (λ (n : ℕ). replicate n 0) c.write_plan.auto.room;
      starts_after = laid_built _ (sizes_of (plan_lanes c.args.plan.now) c.args.plan.now) e (script_starts (plan_lanes c.args.plan.now) c.args.plan.now) c.args.starts.now _ c.write_plan.ensures.starts_after;
      words_after = laid_built _ (sizes_of (plan_lanes c.args.plan.now) c.args.plan.now) e (script_words (plan_lanes c.args.plan.now) c.args.plan.now) c.args.words.now _ c.write_plan.ensures.words_after;
      pieces_after = laid_built _ (sizes_of (plan_lanes c.args.plan.now) c.args.plan.now) e (piece_sizes (plan_lanes c.args.plan.now) c.args.plan.now) c.args.pieces.now _ c.write_pieces.ensures;
    }

pub shape_of-room : goal.shape_of-room
shape_of-room c =
    c.clear-2.auto.l

pub returns : goal.returns
returns c =
    let e =
    too_short c.args.plan.now (length c.args.starts.now) (length c.args.words.now) (length c.args.pieces.now) c.sizes_of-sizes.result c.sizes_of-sizes.ensures _ c.parts_of-parts.ensures.0 c.enough.result c.enough.ensures c.if-enough.false in
    record {
      value = ap Err c.nowhere.ensures ∙ sym (ap flattened_of e);
      room_after = c.clear-2.ensures;
      starts_after = laid_refused _ (nowhere 14) e (script_starts (plan_lanes c.args.plan.now) c.args.plan.now) c.args.starts.now;
      words_after = laid_refused _ (nowhere 14) e (script_words (plan_lanes c.args.plan.now) c.args.plan.now) c.args.words.now;
      pieces_after = laid_refused _ (nowhere 14) e (piece_sizes (plan_lanes c.args.plan.now) c.args.plan.now) c.args.pieces.now;
    }
