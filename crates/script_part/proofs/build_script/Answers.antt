-- The words are written, and what the room then holds is cleared.
-- Assumes nothing.
-- ---- from the places back to what was called and written
use mathlib.Core.Path.{sym, ◌∙◌}
use mathlib.Core.List.{◌++◌}
use Prim.Native.Nat.{ℕ, ◌+◌, ◌*◌, ◌≤◌}
use native.Mathlib.Omega.{arith}
use lib.ListN.{length, drop}
use lib.Seq.{length-take-le, length_front}
use Rattle.script_part.proofs.BuildLaws.{lent_size, room_left_lem}
use Rattle.script_part.proofs.build_script.Goals as goal

-- ---- the needs
pub slice_bounds-write_words-end : goal.slice_bounds-write_words-end
slice_bounds-write_words-end c =
    let tables : ℕ = 32768 + 32 * c.args.part.now.body.lanes in
    let few-in : tables ≤ 65536 = omega (arith, c.requires.0.body.laid.lanes) in
    let tables-in : tables ≤ length c.args.room.now = omega (arith, few-in, c.requires.2) in
    tables-in

pub slice_bounds-write_words-end-2 : goal.slice_bounds-write_words-end-2
slice_bounds-write_words-end-2 c =
    let tables : ℕ = 32768 + 32 * c.args.part.now.body.lanes in
    let few-in : tables ≤ 65536 = omega (arith, c.requires.0.body.laid.lanes) in
    let tables-in : tables ≤ length c.args.room.now = omega (arith, few-in, c.requires.2) in
    sym (length-take-le (tables) c.args.room.now (tables-in))

pub write_words-requires : goal.write_words-requires
write_words-requires c =
    let tables : ℕ = 32768 + 32 * c.args.part.now.body.lanes in
    let few-in : tables ≤ 65536 = omega (arith, c.requires.0.body.laid.lanes) in
    let tables-in : tables ≤ length c.args.room.now = omega (arith, few-in, c.requires.2) in
    (c.requires.0, c.requires.1, length-take-le (tables) c.args.room.now (tables-in), c.requires.3, c.requires.4)

pub slice_bounds-clear-end : goal.slice_bounds-clear-end
slice_bounds-clear-end c =
    let tables : ℕ = 32768 + 32 * c.args.part.now.body.lanes in
    omega (arith, c.requires.2, length_front c.args.room.now c.write_words.new.room (tables) c.write_words.auto.room)

pub slice_bounds-clear-end-2 : goal.slice_bounds-clear-end-2
slice_bounds-clear-end-2 c =
    let tables : ℕ = 32768 + 32 * c.args.part.now.body.lanes in
    let few-in : tables ≤ 65536 = omega (arith, c.requires.0.body.laid.lanes) in
    sym (lent_size (tables) c.args.room.now c.write_words.new.room (few-in) c.requires.2 c.write_words.auto.room)

pub shape_of-room : goal.shape_of-room
shape_of-room c =
    let tables : ℕ = 32768 + 32 * c.args.part.now.body.lanes in
    length_front (c.write_words.new.room ++ drop (tables) c.args.room.now) c.clear.new.l 65536 c.clear.auto.l ∙ length_front c.args.room.now c.write_words.new.room (tables) c.write_words.auto.room

pub shape_of-out : goal.shape_of-out
shape_of-out c = c.write_words.auto.out

pub shape_of-keys : goal.shape_of-keys
shape_of-keys c = c.write_words.auto.keys

pub shape_of-scratch : goal.shape_of-scratch
shape_of-scratch c = c.write_words.auto.scratch

pub shape_of-set : goal.shape_of-set
shape_of-set c = c.write_words.auto.set

pub returns : goal.returns
returns c =
    let tables : ℕ = 32768 + 32 * c.args.part.now.body.lanes in
    let few-in : tables ≤ 65536 = omega (arith, c.requires.0.body.laid.lanes) in
    record { out_after = c.write_words.ensures; room_after = room_left_lem (tables) c.args.room.now c.write_words.new.room (few-in) c.requires.2 c.write_words.auto.room _ c.clear.ensures }
