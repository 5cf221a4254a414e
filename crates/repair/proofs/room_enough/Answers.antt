-- `repair::room_enough` meets its contract: the room's words by four.
-- Assumes nothing.
use native.Mathlib.Omega.{arith}
use lib.ListN.{length}
use Rattle.repair.proofs.RepairWholeLaws.{room_under, room_by}
use Rattle.repair.proofs.room_enough.Goals as goal

pub returns-then-room-lt65536 : goal.returns-then-room-lt65536
returns-then-room-lt65536 c =
    room_under c.args.counts.now (length c.args.room.now) (omega arith)

pub returns : goal.returns
returns c =
    room_by c.args.counts.now (length c.args.room.now) (omega arith)
