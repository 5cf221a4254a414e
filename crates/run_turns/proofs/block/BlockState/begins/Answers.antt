-- By the test on the stages.
-- Assumes nothing.
use mathlib.Core.Path.{refl}
use Rattle.run_turns.proofs.BlockTurnLaws.{begins_empty, begins_part}
use Rattle.run_turns.proofs.block.BlockState.begins.Goals as goal

pub returns-then-stages-eq0 : goal.returns-then-stages-eq0
returns-then-stages-eq0 c = (refl, begins_empty _ _ _ c.stages.ensures.0 c.if-stages-eq0.true, refl)

pub returns-else-stages-eq0 : goal.returns-else-stages-eq0
returns-else-stages-eq0 c = (refl, begins_part _ _ _ c.stages.ensures.0 c.if-stages-eq0.false, refl)
