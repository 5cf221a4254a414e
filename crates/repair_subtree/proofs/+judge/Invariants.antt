-- The level falls at each call.
-- Assumes nothing.
use Rattle.repair_subtree.proofs.+judge.Given as goal

abbrev pub decreases-judge : goal.decreases-judge
decreases-judge l = l.h
