-- `run_turns::room::stage_room` meets its contract: the positions come back in their place, and the captured words are those of the new positions.
-- Assumes nothing.
use mathlib.Core.Path.{sym}
use native.Mathlib.Omega.{arith}
use lib.Seq.{length-take-le}
use Rattle.run_turns.proofs.BlockTurnLaws.{stage_room_is}
use Rattle.run_turns.proofs.room.stage_room.Goals as goal

pub slice_bounds-stage_turn-end-2 : goal.slice_bounds-stage_turn-end-2
slice_bounds-stage_turn-end-2 c = sym (length-take-le _ c.args.room.now (omega (arith, c.args.part.now.part.inside.lanes.most)))

pub stage_turn-requires : goal.stage_turn-requires
stage_turn-requires c =
    (c.requires.0, length-take-le _ c.args.room.now (omega (arith, c.args.part.now.part.inside.lanes.most)))

pub returns : goal.returns
returns c =
    stage_room_is _ c.args.part.now.part.inside.lanes _ _ c.args.room.now c.requires.1 _ _ _ c.args.part.now.captures.places c.stage_turn.ensures c.capture.ensures
