-- `lane_rounds`: 32 before all others, and a room that is cleared whole.
-- Assumes nothing.
use mathlib.Core.Path.{sym}
use mathlib.Core.List.{◌++◌}
use Prim.Native.Nat.{◌≤◌}
use native.Mathlib.Omega.{arith}
use lib.ListN.{length, drop}
use lib.Seq.{length-take-le}
use borrow.Author.Rules.{rules}
use Rattle.rounds.proofs.RoundsAnswerLaws.{part_length}
use Rattle.handed.proofs.HandedAnswerLaws.{handed_short, handed_long}
use Rattle.handed.proofs.lane_rounds.Goals as goal

pub returns-then-room-lt-ROOM_WORDS : goal.returns-then-room-lt-ROOM_WORDS
returns-then-room-lt-ROOM_WORDS c =
    let told = handed_short 256 c.args.set.now c.args.lanes.now _ _ _ c.if-room-lt-ROOM_WORDS.true c.nowhere.ensures in
    record { value = told.0; out_after = told.1.0; room_after = told.1.1 }

pub slice_bounds-lanes_over-end-2 : goal.slice_bounds-lanes_over-end-2
slice_bounds-lanes_over-end-2 c =
    let h : 8192 ≤ length c.args.room.now = omega (arith, c.if-room-lt-ROOM_WORDS.false) in
    sym (length-take-le 8192 c.args.room.now h)

pub lanes_over-answer-requires : goal.lanes_over-answer-requires
lanes_over-answer-requires c =
    let h : 8192 ≤ length c.args.room.now = omega (arith, c.if-room-lt-ROOM_WORDS.false) in
    record { room = length-take-le 8192 c.args.room.now h; some_lanes = search rules; few-lanes = search rules; marks = search rules }

pub returns : goal.returns
returns c =
    let h : 8192 ≤ length c.args.room.now = omega (arith, c.if-room-lt-ROOM_WORDS.false) in
    let told = handed_long 256 c.args.set.now c.args.lanes.now c.args.out.now c.args.room.now _ _ _ (c.lanes_over-answer.new.table ++ drop 8192 c.args.room.now) c.if-room-lt-ROOM_WORDS.false c.lanes_over-answer.ensures.value c.lanes_over-answer.ensures.out_after
    c.clear.ensures (part_length 8192 c.args.room.now c.lanes_over-answer.new.table h c.lanes_over-answer.auto.table) in
    record { value = told.0; out_after = told.1.0; room_after = told.1.1 }
