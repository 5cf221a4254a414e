-- Each phase by itself.
-- Assumes nothing.
use borrow.Author.Rules.{rules}
use Rattle.run_machine.specs.Room.{phase_code}
use Rattle.run_turns.proofs.room.phase_word.Goals as goal

pub returns : goal.returns
unfolding phase_code
returns c = search rules
