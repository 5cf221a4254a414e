-- `run_stage::gather_word` meets its contract. The invariant: 2h bits are gathered.
-- Assumes nothing.
use Rattle.run_stage.specs.Gather.{GatherBits}
use Rattle.run_stage.proofs.gather_word.Given as goal

abbrev pub invariant-loop-h : goal.invariant-loop-h
invariant-loop-h l = GatherBits l.p.lanes l.p.words.now l.l l.j l.h l.x
