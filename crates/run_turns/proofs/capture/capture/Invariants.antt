-- `run_turns::capture::capture` meets its contract. The invariant: l words are captured.
-- Assumes nothing.
use mathlib.Core.Path.{◌≡◌}
use lib.ListN.{length, drop}
use lib.Seq.{sets}
use Rattle.words.specs.Section.{list_of}
use Rattle.run_machine.specs.Part.{normal_at}
use Rattle.run_machine.specs.Room.{block_room, captured_from}
use Rattle.run_turns.specs.Capture.{captured_word}
use Rattle.run_turns.proofs.capture.capture.Given as goal

abbrev pub invariant-loop-l : goal.invariant-loop-l
invariant-loop-l l =
    (l.l-end ≡ normal_at l.part.part.script.words.now l.part.part.at) × (length l.room ≡ block_room) × (l.room ≡ sets l.initial.room captured_from
    (list_of (captured_word l.part.part.script.lanes l.part.part.script.words.now l.part.part.at l.k l.initial.room (drop captured_from l.initial.room)) l.l))
