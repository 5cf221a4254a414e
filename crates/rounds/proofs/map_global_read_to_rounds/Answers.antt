-- `map_global_read_to_rounds`: 32 before all others, and a room that is cleared whole.
-- Assumes nothing.
use Rattle.rounds.proofs.RoundsAnswerLaws.{short_post, long_post}
use Rattle.rounds.proofs.map_global_read_to_rounds.Goals as goal

pub returns-then-room-lt-ROOM_WORDS : goal.returns-then-room-lt-ROOM_WORDS
returns-then-room-lt-ROOM_WORDS c =
    let told = short_post c.args.edition c.args.set.now c.args.out.now c.args.room.now _ c.if-room-lt-ROOM_WORDS.true c.nowhere.ensures in
    record { value = told.0; out_after = told.1.0; room_after = told.1.1 }

pub returns : goal.returns
returns c =
    let told = long_post c.args.edition c.args.set.now c.args.out.now c.args.room.now _ _ _ c.rounds_in-answer.new.room c.if-room-lt-ROOM_WORDS.false c.rounds_in-answer.ensures.value c.rounds_in-answer.ensures.out_after c.clear.ensures c.rounds_in-answer.auto.room in
    record { value = told.0; out_after = told.1.0; room_after = told.1.1 }
