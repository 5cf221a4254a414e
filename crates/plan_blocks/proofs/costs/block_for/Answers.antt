-- `plan_blocks::costs::block_for` meets its contract.
-- Assumes nothing.
use mathlib.Core.Path.{sym, ◌∙◌}
use native.Mathlib.Omega.{arith}
use Rattle.plan_blocks.proofs.LeastCostLaws.{for_early, for_later}
use Rattle.plan_blocks.proofs.costs.block_for.Goals as goal

pub returns-then-i-n : goal.returns-then-i-n
returns-then-i-n c = (sym (for_early _ _ _ c.if-i-n.true), omega arith)

pub returns-else-i-n : goal.returns-else-i-n
returns-else-i-n c = (c.least_block.ensures.0 ∙ sym (for_later _ _ _ c.if-i-n.false), omega (arith, c.least_block.ensures.1))
