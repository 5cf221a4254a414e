-- `run_stage::gather` meets its contract. The invariant: j words are gathered.
-- Assumes nothing.
use Rattle.run_stage.specs.Gather.{Gathered}
use Rattle.run_stage.proofs.gather.Given as goal

abbrev pub invariant-loop-j : goal.invariant-loop-j
invariant-loop-j l = Gathered l.p.lanes l.p.words.now l.initial.l l.l l.j
