-- The part's script is written in the words that are lent for it; the room's first words are clear again.
-- Assumes nothing.
use mathlib.Core.Path.{refl}
use native.Mathlib.Omega.{arith}
use Rattle.script_layout.proofs.RowLaws.{next_in, next_is, lent_long, buildable, room_same, part_written}
use Rattle.script_layout.proofs.parts.write_placed.Goals as goal

pub part_words-requires : goal.part_words-requires
part_words-requires c = c.args.part.now.of.laid.lanes

pub overflow_add-next : goal.overflow_add-next
overflow_add-next c =
    omega (
      arith,
      next_in c.args.part.now.d.now c.args.room.now c.requires.0.sound c.args.part.now.p c.requires.0.part c.numbers_of-x.result c.numbers_of-x.ensures.numbers_of c.args.at _ _ _
          c.args.words.now c.args.part.now.of.lanes c.part_words.ensures.0 refl c.requires.0.fits,
      c.well_formed,
      c.ranges,
    )

pub offset_bounds-words-at : goal.offset_bounds-words-at
offset_bounds-words-at c =
    omega (arith, c.requires.0.fits, c.well_formed, c.ranges)

pub slice_bounds-build_script-end : goal.slice_bounds-build_script-end
slice_bounds-build_script-end c =
    next_in c.args.part.now.d.now c.args.room.now c.requires.0.sound c.args.part.now.p c.requires.0.part c.numbers_of-x.result c.numbers_of-x.ensures.numbers_of c.args.at _ _ _ c.args.words.now c.args.part.now.of.lanes c.part_words.ensures.0 refl c.requires.0.fits

pub build_script-requires : goal.build_script-requires
build_script-requires c = (
  buildable c.args.part.now.d.now c.args.room.now c.requires.0.sound c.args.part.now.p c.requires.0.part c.args.part.now.body c.args.part.now.of,
  c.numbers_of-x.ensures.numbers_of,
  omega (arith, c.requires.0.sound.ready.wide),
  lent_long c.args.part.now.d.now c.args.room.now c.requires.0.sound c.args.part.now.p c.requires.0.part c.numbers_of-x.result c.numbers_of-x.ensures.numbers_of c.args.at _ _ _ c.args.words.now c.args.part.now.of.lanes c.part_words.ensures.0 refl c.requires.0.fits,
  c.requires.1,
)

pub shape_of-room : goal.shape_of-room
shape_of-room c =
    c.build_script.auto.room

pub shape_of-keys : goal.shape_of-keys
shape_of-keys c =
    c.build_script.auto.keys

pub shape_of-scratch : goal.shape_of-scratch
shape_of-scratch c =
    c.build_script.auto.scratch

pub shape_of-set : goal.shape_of-set
shape_of-set c =
    c.build_script.auto.set

pub returns : goal.returns
returns c =
    record {
      value = next_is c.args.part.now.d.now c.args.room.now c.requires.0.sound c.args.part.now.p c.requires.0.part c.numbers_of-x.result c.numbers_of-x.ensures.numbers_of c.args.at _ _ _ c.args.words.now c.args.part.now.of.lanes c.part_words.ensures.0 refl c.requires.0.fits;
      room_unchanged = room_same c.args.part.now.d.now c.args.room.now c.requires.0.sound _ c.build_script.ensures.room_after;
      words_after = part_written c.args.part.now.d.now c.args.room.now c.requires.0.sound c.args.part.now.p c.requires.0.part c.numbers_of-x.result c.numbers_of-x.ensures.numbers_of c.args.at _ _ _ c.args.words.now c.args.part.now.of.lanes c.part_words.ensures.0 refl c.requires.0.fits
          c.args.last c.numbers_of-x.ensures.last_value _ c.build_script.auto.out c.build_script.ensures.out_after;
    }
