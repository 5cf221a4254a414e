-- `reads_asked::gather` meets its contract: the set of the first bits stands in the first n words.
-- Assumes nothing.
use Rattle.reads_asked.proofs.FrontStoreLaws.{Gathered}
use Rattle.reads_asked.proofs.gather.Given as goal

abbrev pub invariant-loop-key : goal.invariant-loop-key
invariant-loop-key l = Gathered l.keys l.initial.set l.set l.n l.key-index
