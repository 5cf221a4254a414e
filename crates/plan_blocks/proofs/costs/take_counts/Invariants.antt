-- The first b counts are the records'.
-- Assumes nothing.
use Rattle.std.proofs.Common.{length}
use Rattle.plan_blocks.specs.TableFill.{block_part_counts}
use Rattle.plan_blocks.proofs.OnePartMoreLaws.{BlockTaken}
use Rattle.plan_blocks.proofs.costs.take_counts.Given as goal

abbrev pub invariant-loop-b : goal.invariant-loop-b
invariant-loop-b l = BlockTaken (block_part_counts (length l.initial.counts) l.blocks) l.counts l.b
