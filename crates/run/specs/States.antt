-- The blocks of a run as the lent room holds them, one room after another; n is the number of lanes.
-- Assumes nothing.
use Rattle.std.specs.Prelude.{List, [], ◌∷◌, ℕ, zero, suc, ◌+◌, ◌*◌, take, drop}
use Rattle.run_machine.specs.Turn.{Block}
use Rattle.run_machine.specs.Room.{block_room, part_of, phase_of, stage_of}
use Rattle.run_machine.specs.Run.{Running}
use Rattle.run_turns.specs.Block.{state_block}

-- the room of block b
unfoldable pub room_of : List ℕ → ℕ → List ℕ
room_of room b = take block_room (drop (block_room * b) room)

-- the block in room r
unfoldable pub room_block : ℕ → List ℕ → List ℕ → Block
room_block n W r = state_block n W (part_of r) (phase_of r) (stage_of r) r

-- ---- m blocks from block i on

unfoldable pub blocks_in : ℕ → List ℕ → List ℕ → ℕ → ℕ → List Block
blocks_in n W room zero i = []
blocks_in n W room (suc m) i = room_block n W (room_of room i) ∷ blocks_in n W room m (i + 1)

-- all m, and the new state
abbrev pub running : ℕ → List ℕ → ℕ → List ℕ → List ℕ → Running
running n W m room new = record { blocks = blocks_in n W room m 0; new = new }
