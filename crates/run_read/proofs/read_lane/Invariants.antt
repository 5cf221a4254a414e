-- `run_read::read_lane` meets its contract. The invariant: the lane's word after r rounds.
-- Assumes nothing.
use mathlib.Core.Path.{◌≡◌}
use Rattle.reads.specs.ReadTurn.{lane_word}
use Rattle.run_machine.specs.Part.{rounds_at, read_word_at, read_mask_at}
use Rattle.run_machine.specs.Turn.{state_word}
use Rattle.run_read.proofs.read_lane.Given as goal

abbrev pub invariant-loop-r : goal.invariant-loop-r
invariant-loop-r l =
    (l.r-end ≡ rounds_at l.turn.part.script.words.now l.turn.part.at) × (l.acc ≡ lane_word (λ q. state_word l.turn.old.now l.turn.new.now (read_word_at l.turn.part.script.lanes l.turn.part.script.words.now l.turn.part.at q l.i))
    (λ q. read_mask_at l.turn.part.script.lanes l.turn.part.script.words.now l.turn.part.at q l.i) l.r)
