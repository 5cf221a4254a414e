-- With parts, their words; without, those of an empty block.
-- Assumes nothing.
use mathlib.Core.Path.{refl}
use Prim.Native.Nat.{◌+◌, ◌≤◌}
use native.Mathlib.Omega.{arith}
use Rattle.script_assembly.specs.WrittenSoFar.{first_rank}
use Rattle.script_layout.proofs.PlacedLaws.{empty_next, empty_in_lem, empty_room, empty_stored}
use Rattle.script_layout.proofs.placed.write_block.Goals as goal

pub write_parts-next-requires : goal.write_parts-next-requires
write_parts-next-requires c =
    (c.requires.0, c.if-from-to.true, c.block_end-to.ensures, c.requires.1)

pub shape_of-room-then-from-to : goal.shape_of-room-then-from-to
shape_of-room-then-from-to c =
    c.write_parts-next.auto.room

pub shape_of-words-then-from-to : goal.shape_of-words-then-from-to
shape_of-words-then-from-to c =
    c.write_parts-next.auto.words

pub shape_of-keys-then-from-to : goal.shape_of-keys-then-from-to
shape_of-keys-then-from-to c =
    c.write_parts-next.auto.keys

pub shape_of-scratch-then-from-to : goal.shape_of-scratch-then-from-to
shape_of-scratch-then-from-to c =
    c.write_parts-next.auto.scratch

pub shape_of-set-then-from-to : goal.shape_of-set-then-from-to
shape_of-set-then-from-to c =
    c.write_parts-next.auto.set

pub returns-then-from-to : goal.returns-then-from-to
returns-then-from-to c =
    record { rank_value = (c.block_end-to.ensures, c.write_parts-next.ensures.value); room_unchanged = c.write_parts-next.ensures.room_unchanged; words_after = c.write_parts-next.ensures.words_after }

pub overflow_add-next : goal.overflow_add-next
overflow_add-next c =
    let none : first_rank c.args.d.now c.args.s (c.args.b + 1) ≤ c.args.from = omega (arith, c.block_end-to.ensures, c.if-from-to.false) in
    omega (arith, empty_in_lem c.args.d.now c.args.room.now _ _ _ c.requires.0.place none c.args.at _ c.lanes_of.ensures.0 c.args.words.now c.requires.0.fits, c.well_formed, c.ranges)

pub slice_bounds-write_empty-end : goal.slice_bounds-write_empty-end
slice_bounds-write_empty-end c =
    let none : first_rank c.args.d.now c.args.s (c.args.b + 1) ≤ c.args.from = omega (arith, c.block_end-to.ensures, c.if-from-to.false) in
    empty_in_lem c.args.d.now c.args.room.now _ _ _ c.requires.0.place none c.args.at _ c.lanes_of.ensures.0 c.args.words.now c.requires.0.fits

pub write_empty-requires : goal.write_empty-requires
write_empty-requires c =
    let none : first_rank c.args.d.now c.args.s (c.args.b + 1) ≤ c.args.from = omega (arith, c.block_end-to.ensures, c.if-from-to.false) in
    empty_room c.args.d.now c.args.room.now _ _ _ c.requires.0.place none c.args.at _ c.lanes_of.ensures.0 c.args.words.now c.requires.0.fits

pub returns : goal.returns
returns c =
    let none : first_rank c.args.d.now c.args.s (c.args.b + 1) ≤ c.args.from = omega (arith, c.block_end-to.ensures, c.if-from-to.false) in
    record {
      rank_value = (c.block_end-to.ensures, empty_next c.args.d.now c.args.room.now _ _ _ c.requires.0.place none c.args.at _ c.lanes_of.ensures.0 c.args.words.now c.requires.0.fits);
      room_unchanged = refl;
      words_after = empty_stored c.args.d.now c.args.room.now _ _ _ c.requires.0.place none c.args.at _ c.lanes_of.ensures.0 c.args.words.now c.requires.0.fits _ c.write_empty.auto.out c.write_empty.ensures;
    }
