use mathlib.Core.Path.{◌≡◌, refl, ap, ◌∙◌}
use Prim.Native.Nat.{ℕ, ◌<◌}
use native.Mathlib.Omega.{arith}
use lib.ListN.{length}
use lib.Seq.{sets}
use Rattle.plan_record.specs.Record.{plan_lanes, majors_of}
use Rattle.script_assembly.specs.Assembly.{major_starts, major_words}
use Rattle.script_layout.proofs.ListStoreLaws.{stores_length, lists_long}
use Rattle.script_layout.proofs.StageWriteLaws.{none_next, no_words, no_starts, start_few, stage_room, stage_words_lem, stage_starts_stored}
use Rattle.script_layout.proofs.write_stages.Goals as goal

pub loop-s-init : goal.loop-s-init
loop-s-init c =
    (refl, none_next c.args.d.now c.args.room.now _ _ c.requires.0, no_starts c.args.d.now c.args.room.now _ _ c.requires.0 _, no_words c.args.d.now c.args.room.now _ _ c.requires.0 _)

pub overflow_mul-blocks : goal.overflow_mul-blocks
overflow_mul-blocks c =
    let more : c.loop-s.s < majors_of c.args.d.now = omega (arith, c.majors_of-majors.ensures, c.loop-s-test.true) in
    omega (arith, start_few c.args.d.now c.args.room.now _ _ c.requires.0 c.loop-s.s _ more c.blocks_of-blocks.ensures)

pub write_stage-next-requires : goal.write_stage-next-requires
write_stage-next-requires c =
    let more : c.loop-s.s < majors_of c.args.d.now = omega (arith, c.majors_of-majors.ensures, c.loop-s-test.true) in (
      stage_room c.args.d.now c.args.room.now _ _ c.requires.0 c.loop-s.s _ more c.blocks_of-blocks.ensures c.loop-s.next c.loop-s.invariant.1 c.loop-s.room c.loop-s.invariant.0 _ _
          (stores_length c.args.starts.now c.loop-s.starts 0 (major_starts (plan_lanes c.args.d.now) c.args.d.now c.loop-s.s) c.loop-s.invariant.2)
          (stores_length c.args.words.now c.loop-s.words 0 (major_words (plan_lanes c.args.d.now) c.args.d.now c.loop-s.s) c.loop-s.invariant.3),
      lists_long c.requires.1 c.loop-s.auto.keys c.loop-s.auto.scratch c.loop-s.auto.set,
    )

pub loop-s-preserved : goal.loop-s-preserved
loop-s-preserved c =
    let more : c.loop-s.s < majors_of c.args.d.now = omega (arith, c.majors_of-majors.ensures, c.loop-s-test.true) in (
      c.write_stage-next.ensures.room_unchanged ∙ c.loop-s.invariant.0,
      c.write_stage-next.ensures.next_of,
      stage_starts_stored c.args.d.now c.args.room.now _ _ c.requires.0 c.loop-s.s _ more c.blocks_of-blocks.ensures c.args.starts.now c.loop-s.starts _ c.loop-s.invariant.2 c.write_stage-next.ensures.starts_after,
      stage_words_lem c.args.d.now c.args.room.now _ _ c.requires.0 c.loop-s.s _ more c.blocks_of-blocks.ensures c.loop-s.next c.loop-s.invariant.1 c.args.words.now c.loop-s.words _ c.loop-s.invariant.3 c.write_stage-next.ensures.words_after,
    )

pub shape_of-starts : goal.shape_of-starts
shape_of-starts c =
    stores_length c.args.starts.now c.loop-s.starts 0 (major_starts (plan_lanes c.args.d.now) c.args.d.now c.loop-s.s) c.loop-s.invariant.2

pub shape_of-words : goal.shape_of-words
shape_of-words c =
    stores_length c.args.words.now c.loop-s.words 0 (major_words (plan_lanes c.args.d.now) c.args.d.now c.loop-s.s) c.loop-s.invariant.3

pub shape_of-keys : goal.shape_of-keys
shape_of-keys c =
    c.loop-s.auto.keys

pub shape_of-scratch : goal.shape_of-scratch
shape_of-scratch c =
    c.loop-s.auto.scratch

pub shape_of-set : goal.shape_of-set
shape_of-set c =
    c.loop-s.auto.set

pub returns : goal.returns
returns c =
    let e : c.loop-s.s ≡ majors_of c.args.d.now = omega (arith, c.majors_of-majors.ensures) in
    record {
      value = c.loop-s.invariant.1.at ∙ ap (λ (n : ℕ). length (major_words (plan_lanes c.args.d.now) c.args.d.now n)) e;
      room_unchanged = c.loop-s.invariant.0;
      starts_after = c.loop-s.invariant.2 ∙ ap (λ (n : ℕ). sets c.args.starts.now 0 (major_starts (plan_lanes c.args.d.now) c.args.d.now n)) e;
      words_after = c.loop-s.invariant.3 ∙ ap (λ (n : ℕ). sets c.args.words.now 0 (major_words (plan_lanes c.args.d.now) c.args.d.now n)) e;
    }
