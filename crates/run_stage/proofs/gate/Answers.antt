-- `run_stage::gate` meets its contract: by the definition.
-- Assumes nothing.
use borrow.Author.Rules.{rules}
use Rattle.run_stage.specs.Level.{gate_word}
use Rattle.run_stage.proofs.gate.Goals as goal

pub returns : goal.returns
unfolding gate_word
returns c = search rules
