-- `run_turns::room::store_room` meets its contract: of the words that are lent the normal ones count.
-- Assumes nothing.
use Prim.Native.Nat.{◌≤◌}
use native.Mathlib.Omega.{arith}
use Rattle.run_machine.specs.Part.{normal_at}
use Rattle.run_turns.proofs.BlockTurnLaws.{store_room_is}
use Rattle.run_turns.proofs.room.store_room.Goals as goal

pub returns : goal.returns
returns c =
    let few : normal_at c.args.turn.now.part.part.script.words.now c.args.turn.now.part.part.at ≤ 256 = omega (arith, c.args.turn.now.part.captures.few, c.args.turn.now.part.part.inside.lanes.most) in
    store_room_is _ _ _ _ _ c.args.room.now _ few c.store.ensures
