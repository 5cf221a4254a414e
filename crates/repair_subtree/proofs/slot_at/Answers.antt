-- `repair_subtree::slot_at` meets its contract: the word, or the default where there is none.
-- Assumes nothing.
use native.Mathlib.Omega.{arith}
use Rattle.repair_subtree.proofs.SubtreeLaws.{slot_past, slot_here}
use Rattle.repair_subtree.proofs.slot_at.Goals as goal

pub returns-then-slots-q : goal.returns-then-slots-q
returns-then-slots-q c =
    slot_past c.args.slots.now c.args.q (omega arith)

pub returns : goal.returns
returns c =
    slot_here c.args.slots.now c.args.q c.requires (omega arith)
