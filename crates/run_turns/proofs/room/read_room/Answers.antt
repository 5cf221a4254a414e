-- `run_turns::room::read_room` meets its contract: a part that is lent comes back in its place.
-- Assumes nothing.
use mathlib.Core.Path.{sym}
use native.Mathlib.Omega.{arith}
use lib.Seq.{length-take-le}
use Rattle.run_turns.proofs.BlockTurnLaws.{read_room_is}
use Rattle.run_turns.proofs.room.read_room.Goals as goal

pub slice_bounds-read_turn-end-2 : goal.slice_bounds-read_turn-end-2
slice_bounds-read_turn-end-2 c = sym (length-take-le _ c.args.room.now (omega (arith, c.args.turn.now.part.inside.lanes.most)))

pub read_turn-requires : goal.read_turn-requires
read_turn-requires c = length-take-le _ c.args.room.now (omega (arith, c.args.turn.now.part.inside.lanes.most))

pub returns : goal.returns
returns c =
    read_room_is _ c.args.turn.now.part.inside.lanes _ _ c.args.room.now c.requires _ _ _ _ c.read_turn.ensures (c.fill.ensures.after (λ y e. e))
