-- The level falls at each call, of the one and of the other.
-- Assumes nothing.
use Rattle.repair_subtree.proofs.+carry_down_split_gate.Given as goal

abbrev pub decreases-carry_down : goal.decreases-carry_down
decreases-carry_down l = l.at.level

abbrev pub decreases-split_gate : goal.decreases-split_gate
decreases-split_gate l = l.at.level
