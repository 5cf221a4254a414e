-- `run_stage::low_step` meets its contract, by the law of one step.
-- Assumes nothing.
use Rattle.run_stage.specs.Level.{gate_word}
use Rattle.run_stage.proofs.LowLaws.{step_law}
use Rattle.run_stage.proofs.low_step.Goals as goal

pub returns : goal.returns
unfolding gate_word
returns c = rw c.requires.1 (step_law _ _ _ _ _ c.requires.2)
