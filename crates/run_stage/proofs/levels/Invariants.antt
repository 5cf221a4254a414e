-- `run_stage::levels` meets its contract. The invariant: the levels of m words and more are right.
-- Assumes nothing.
use Rattle.run_stage.proofs.LevelLaws.{LevelsGoing}
use Rattle.run_stage.proofs.levels.Given as goal

abbrev pub invariant-loop-m : goal.invariant-loop-m
invariant-loop-m l = LevelsGoing l.t l.initial.l l.l l.n l.m

abbrev pub decreases-loop-m : goal.decreases-loop-m
decreases-loop-m l = l.m
