-- `run_turns::room::store_state` meets its contract: four words stored.
-- Assumes nothing.
use mathlib.Core.Path.{ap}
use Prim.Native.Nat.{ℕ, ◌/◌, ◌%◌, ◌^◌}
use lib.ListN.{set}
use Rattle.run_machine.specs.Room.{part_low, part_high, phase_word, stage_word, block_state_words}
use Rattle.run_turns.proofs.room.store_state.Goals as goal

pub returns : goal.returns
unfolding block_state_words
returns c =
    ap (λ (x : ℕ). set (set (set (set c.args.room.now part_low (c.args.state.part % 2 ^ 32)) part_high (c.args.state.part / 2 ^ 32)) phase_word x) stage_word c.args.state.stage) c.phase_word.ensures
