use mathlib.Core.Path.{◌≡◌, refl, ap, ◌∙◌}
use Prim.Native.Nat.{ℕ, ◌<◌}
use native.Mathlib.Omega.{arith}
use lib.Seq.{sets}
use Rattle.plan_record.specs.Record.{plan_lanes, blocks_of}
use Rattle.script_assembly.specs.Assembly.{stage_starts, stage_words}
use Rattle.script_layout.proofs.ListStoreLaws.{stores_length, lists_long}
use Rattle.script_layout.proofs.StageWriteLaws.{rank_first, at_first, words_first, starts_first, at_next, block_room, words_next, starts_next, stage_next}
use Rattle.script_layout.proofs.write_stage.Goals as goal

pub loop-b-init : goal.loop-b-init
loop-b-init c = (
  refl,
  rank_first c.args.d.now c.args.room.now _ _ _ _ _ c.requires.0,
  at_first c.args.d.now c.args.room.now _ _ _ _ _ c.requires.0,
  starts_first c.args.d.now c.args.room.now _ _ _ _ _ c.requires.0 _,
  words_first
      c.args.d.now c.args.room.now _ _ _ _ _ c.requires.0 _,
)

pub bounds-starts-first : goal.bounds-starts-first
bounds-starts-first c =
    omega (arith, c.requires.0.starts, c.blocks_of-blocks.ensures, c.loop-b-test.true, stores_length c.args.starts.now c.loop-b.starts c.args.first (stage_starts (plan_lanes c.args.d.now) c.args.d.now c.args.s c.loop-b.b) c.loop-b.invariant.3)

pub write_block-next-requires : goal.write_block-next-requires
write_block-next-requires c =
    let more : c.loop-b.b < blocks_of c.args.d.now = omega (arith, c.blocks_of-blocks.ensures, c.loop-b-test.true) in (
      block_room c.args.d.now c.args.room.now _ _ _ _ _ c.requires.0 c.loop-b.b more c.loop-b.next.rank c.loop-b.next.at c.loop-b.invariant.1 c.loop-b.invariant.2 c.loop-b.room c.loop-b.invariant.0 _
          (stores_length c.args.words.now c.loop-b.words c.args.at.at (stage_words (plan_lanes c.args.d.now) c.args.d.now c.args.s c.loop-b.b) c.loop-b.invariant.4),
      lists_long c.requires.1 c.loop-b.auto.keys c.loop-b.auto.scratch c.loop-b.auto.set,
    )

pub loop-b-preserved : goal.loop-b-preserved
loop-b-preserved c =
    let more : c.loop-b.b < blocks_of c.args.d.now = omega (arith, c.blocks_of-blocks.ensures, c.loop-b-test.true) in (
      c.write_block-next.ensures.room_unchanged ∙ c.loop-b.invariant.0,
      c.write_block-next.ensures.rank_value.0,
      at_next c.args.d.now c.args.room.now _ _ _ _ _ c.requires.0 c.loop-b.b more c.loop-b.next.rank c.loop-b.next.at c.loop-b.invariant.1 c.loop-b.invariant.2 _ c.write_block-next.ensures.rank_value.1,
      starts_next c.args.d.now c.args.room.now _ _ _ _ _ c.requires.0 c.loop-b.b more c.loop-b.next.rank c.loop-b.next.at c.loop-b.invariant.1 c.loop-b.invariant.2 c.args.starts.now c.loop-b.starts c.loop-b.invariant.3,
      words_next c.args.d.now c.args.room.now _ _ _ _ _ c.requires.0 c.loop-b.b more c.loop-b.next.rank c.loop-b.next.at c.loop-b.invariant.1 c.loop-b.invariant.2 c.args.words.now c.loop-b.words _ c.loop-b.invariant.4 c.write_block-next.ensures.words_after,
    )

pub shape_of-starts : goal.shape_of-starts
shape_of-starts c =
    stores_length c.args.starts.now c.loop-b.starts c.args.first (stage_starts (plan_lanes c.args.d.now) c.args.d.now c.args.s c.loop-b.b) c.loop-b.invariant.3

pub shape_of-words : goal.shape_of-words
shape_of-words c =
    stores_length c.args.words.now c.loop-b.words c.args.at.at (stage_words (plan_lanes c.args.d.now) c.args.d.now c.args.s c.loop-b.b) c.loop-b.invariant.4

pub shape_of-keys : goal.shape_of-keys
shape_of-keys c =
    c.loop-b.auto.keys

pub shape_of-scratch : goal.shape_of-scratch
shape_of-scratch c =
    c.loop-b.auto.scratch

pub shape_of-set : goal.shape_of-set
shape_of-set c =
    c.loop-b.auto.set

pub returns : goal.returns
returns c =
    let e : c.loop-b.b ≡ blocks_of c.args.d.now = omega (arith, c.blocks_of-blocks.ensures) in
    record {
      next_of = stage_next c.args.d.now c.args.room.now _ _ _ _ _ c.requires.0 c.loop-b.b c.loop-b.next e c.loop-b.invariant.1 c.loop-b.invariant.2;
      room_unchanged = c.loop-b.invariant.0;
      starts_after = c.loop-b.invariant.3 ∙ ap (λ (n : ℕ). sets c.args.starts.now c.args.first (stage_starts (plan_lanes c.args.d.now) c.args.d.now c.args.s n)) e;
      words_after = c.loop-b.invariant.4 ∙ ap (λ (n : ℕ). sets c.args.words.now c.args.at.at (stage_words (plan_lanes c.args.d.now) c.args.d.now c.args.s n)) e;
    }
