-- `report_feed::feed`: 32 before all others, and a room that is cleared whole.
-- Assumes nothing.
use mathlib.Core.Path.{ap, ◌∙◌}
use Rattle.std.specs.Prelude.{Err}
use Rattle.report.specs.Report.{part_given}
use Rattle.report_feed.proofs.CallLaws.{feed_short, feed_long}
use Rattle.report_feed.proofs.feed.Goals as goal

pub returns-then-room-lt-ROOM_WORDS : goal.returns-then-room-lt-ROOM_WORDS
returns-then-room-lt-ROOM_WORDS c =
    let m = feed_short c.args.edition (part_given c.args.set.now c.args.lanes.now c.args.stages) c.args.batch.now c.args.room.now c.if-room-lt-ROOM_WORDS.true in
    let told = m.1 in
    record { value = ap Err c.nowhere.ensures ∙ m.0; batch_after = told.0; room_after = told.1 }

pub returns : goal.returns
returns c =
    let told =
    feed_long c.args.edition (part_given c.args.set.now c.args.lanes.now c.args.stages) c.args.batch.now c.args.room.now _ _ _ c.feed_in-answer.new.room c.if-room-lt-ROOM_WORDS.false
    (c.feed_in-answer.ensures.value, c.feed_in-answer.ensures.batch_after) c.clear.ensures c.feed_in-answer.auto.room in
    record { value = told.0; batch_after = told.1.0; room_after = told.1.1 }
