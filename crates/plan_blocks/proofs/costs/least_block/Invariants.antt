-- `best` is the first least of the first i costs.
-- Assumes nothing.
use Rattle.std.proofs.Common.{◌≡◌, ◌-◌, ◌<◌}
use Rattle.plan_blocks.specs.Blocks.{least_to}
use Rattle.plan_blocks.specs.TableFill.{costs_of}
use Rattle.plan_blocks.proofs.costs.least_block.Given as goal

abbrev pub invariant-loop-i : goal.invariant-loop-i
invariant-loop-i l = (l.best < l.i) × (l.best ≡ least_to (costs_of l.n l.blocks) (l.i - 1))
