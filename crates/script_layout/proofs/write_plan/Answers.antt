-- All major stages, then the final start and the zero words.
-- Assumes nothing.
use mathlib.Core.Path.{refl, ◌∙◌}
use Prim.Native.Nat.{◌+◌, ◌*◌, ◌-◌}
use native.Mathlib.Omega.{arith}
use borrow.Rule.Slice.PartMut.{same_len_mid}
use lib.ListN.{length-set}
use Rattle.script_layout.proofs.StageWriteLaws.{end_fits, last_start, last_in, last_words}
use Rattle.script_layout.proofs.write_plan.Goals as goal

pub write_stages-end-requires : goal.write_stages-end-requires
write_stages-end-requires c =
    c.requires

pub overflow_mul-last : goal.overflow_mul-last
overflow_mul-last c =
    omega (arith, last_in c.args.d.now c.args.room.now _ _ c.requires.0 _ _ c.blocks_of.ensures c.majors_of.ensures)

pub offset_bounds-starts-last : goal.offset_bounds-starts-last
offset_bounds-starts-last c =
    omega (arith, last_in c.args.d.now c.args.room.now _ _ c.requires.0 _ _ c.blocks_of.ensures c.majors_of.ensures)

pub bounds-starts-last : goal.bounds-starts-last
bounds-starts-last c =
    omega (arith, last_in c.args.d.now c.args.room.now _ _ c.requires.0 _ _ c.blocks_of.ensures c.majors_of.ensures, c.write_stages-end.auto.starts)

pub overflow_add-end : goal.overflow_add-end
overflow_add-end c =
    omega (arith, end_fits c.args.d.now c.args.room.now _ _ c.requires.0 _ c.write_stages-end.ensures.value _ c.lanes_of-zeros.ensures.0, c.well_formed)

pub offset_bounds-words-end : goal.offset_bounds-words-end
offset_bounds-words-end c =
    omega (arith, end_fits c.args.d.now c.args.room.now _ _ c.requires.0 _ c.write_stages-end.ensures.value _ c.lanes_of-zeros.ensures.0, c.well_formed)

pub slice_bounds-clear-end : goal.slice_bounds-clear-end
slice_bounds-clear-end c =
    omega (arith, end_fits c.args.d.now c.args.room.now _ _ c.requires.0 _ c.write_stages-end.ensures.value _ c.lanes_of-zeros.ensures.0, c.write_stages-end.auto.words)

pub shape_of-room : goal.shape_of-room
shape_of-room c =
    c.write_stages-end.auto.room

pub shape_of-starts : goal.shape_of-starts
shape_of-starts c =
    length-set c.write_stages-end.new.starts _ _ ∙ c.write_stages-end.auto.starts

pub shape_of-words : goal.shape_of-words
shape_of-words c =
    same_len_mid c.write_stages-end.result (c.write_stages-end.result + 8 * c.lanes_of-zeros.result - c.write_stages-end.result) c.write_stages-end.new.words c.clear.new.l c.clear.auto.l ∙ c.write_stages-end.auto.words

pub shape_of-keys : goal.shape_of-keys
shape_of-keys c =
    c.write_stages-end.auto.keys

pub shape_of-scratch : goal.shape_of-scratch
shape_of-scratch c =
    c.write_stages-end.auto.scratch

pub shape_of-set : goal.shape_of-set
shape_of-set c =
    c.write_stages-end.auto.set

pub returns : goal.returns
returns c =
    record {
      room_unchanged = c.write_stages-end.ensures.room_unchanged;
      starts_after = last_start c.args.d.now c.args.room.now _ _ c.requires.0 c.write_stages-end.result c.write_stages-end.ensures.value _ _ c.blocks_of.ensures c.majors_of.ensures c.args.starts.now c.write_stages-end.new.starts c.write_stages-end.ensures.starts_after;
      words_after = last_words c.args.d.now c.args.room.now _ _ c.requires.0 c.write_stages-end.result c.write_stages-end.ensures.value _ c.lanes_of-zeros.ensures.0 c.args.words.now c.write_stages-end.new.words _ refl c.write_stages-end.ensures.words_after c.clear.ensures;
    }
