-- `locals::local_position` meets its contract: 32 before all others, and a room that is cleared whole.
-- Assumes nothing.
use Rattle.locals.proofs.BroughtLaws.{short_room, long_room}
use Rattle.locals.proofs.local_position.Goals as goal

pub returns-then-room-lt-ROOM_WORDS : goal.returns-then-room-lt-ROOM_WORDS
returns-then-room-lt-ROOM_WORDS c =
    let told = short_room c.args.edition c.args.set.now c.args.room.now c.args.w c.args.k _ c.if-room-lt-ROOM_WORDS.true c.nowhere.ensures in
    record { value = told.0; room_after = told.1 }

pub returns : goal.returns
returns c =
    let told = long_room c.args.edition c.args.set.now c.args.room.now c.args.w c.args.k _ _ c.bring_in-answer.new.room c.if-room-lt-ROOM_WORDS.false c.bring_in-answer.ensures c.clear.ensures c.bring_in-answer.auto.room in
    record { value = told.0; room_after = told.1 }
