-- The invariant: l words are stored.
-- Assumes nothing.
use mathlib.Core.Path.{◌≡◌}
use lib.ListN.{take}
use lib.Seq.{sets}
use Rattle.words.specs.Section.{list_of}
use Rattle.run_machine.specs.Turn.{stored_word}
use Rattle.run_store.proofs.store.Given as goal

abbrev pub invariant-loop-l : goal.invariant-loop-l
invariant-loop-l l =
    l.new ≡ sets l.initial.new l.start (list_of (stored_word l.turn.part.part.script.lanes l.turn.part.part.script.words.now l.turn.part.part.at l.turn.old.now (take l.normal l.caps)) l.l)
