-- `run_stage::level` meets its contract. The invariant: words m .. w - 1 are done.
-- Assumes nothing.
use Rattle.run_stage.specs.Level.{LevelIn}
use Rattle.run_stage.proofs.level.Given as goal

abbrev pub invariant-loop-w : goal.invariant-loop-w
invariant-loop-w l = LevelIn l.t l.initial.l l.l l.m l.w
