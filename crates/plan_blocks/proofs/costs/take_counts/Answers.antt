use Rattle.std.proofs.Common.{length, sym, arith}
use Rattle.plan_blocks.proofs.BlockCostLaws.{counts_length, count_at}
use Rattle.plan_blocks.proofs.OnePartMoreLaws.{taken_none, taken_more, taken_all}
use Rattle.plan_blocks.proofs.costs.take_counts.Goals as goal

pub loop-b-init : goal.loop-b-init
loop-b-init c = taken_none _ _ (sym (counts_length _ _))

pub loop-b-preserved : goal.loop-b-preserved
loop-b-preserved c =
    taken_more _ _ c.loop-b.b _ c.loop-b.invariant (omega (arith, c.loop-b.invariant.long)) (count_at (length c.args.counts.now) c.args.blocks.now c.loop-b.b (omega arith))

pub returns : goal.returns
returns c =
    taken_all _ _ c.loop-b.b c.loop-b.invariant (omega (arith, c.loop-b.invariant.within, c.loop-b.invariant.long))
