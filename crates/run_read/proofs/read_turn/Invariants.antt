-- `run_read::read_turn` meets its contract. The invariant: lanes 0 .. i - 1 are read.
-- Assumes nothing.
use mathlib.Core.Path.{◌≡◌}
use Rattle.reads.specs.ReadTurn.{lane_word}
use Rattle.run_machine.specs.Part.{rounds_at, read_word_at, read_mask_at}
use Rattle.run_machine.specs.Turn.{state_word}
use Rattle.run_stage.specs.StoreLoop.{Filled}
use Rattle.run_read.proofs.read_turn.Given as goal

abbrev pub invariant-loop-i : goal.invariant-loop-i
invariant-loop-i l =
    Filled (λ w x. x ≡ lane_word (λ q. state_word l.turn.old.now l.turn.new.now (read_word_at l.turn.part.script.lanes l.turn.part.script.words.now l.turn.part.at q w))
    (λ q. read_mask_at l.turn.part.script.lanes l.turn.part.script.words.now l.turn.part.at q w) (rounds_at l.turn.part.script.words.now l.turn.part.at)) 0 l.i l.initial.row l.row
