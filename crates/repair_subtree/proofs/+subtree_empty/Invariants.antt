-- The level falls at each call.
-- Assumes nothing.
use Rattle.repair_subtree.proofs.+subtree_empty.Given as goal

abbrev pub decreases-subtree_empty : goal.decreases-subtree_empty
decreases-subtree_empty l = l.at.level
