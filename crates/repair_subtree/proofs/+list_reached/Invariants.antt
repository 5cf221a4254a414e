-- The level falls at each call.
-- Assumes nothing.
use Rattle.repair_subtree.proofs.+list_reached.Given as goal

abbrev pub decreases-list_reached : goal.decreases-list_reached
decreases-list_reached l = l.at.level
