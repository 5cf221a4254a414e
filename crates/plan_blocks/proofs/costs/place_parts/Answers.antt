use Rattle.std.proofs.Common.{◌≡◌, arith}
use Rattle.plan_blocks.proofs.OnePartMoreLaws.{placed_none, placed_long, placed_counts, put_ready, placed_more}
use Rattle.plan_blocks.proofs.costs.place_parts.Goals as goal

pub loop-i-init : goal.loop-i-init
loop-i-init c = placed_none _ _ _ _ c.requires.some_block c.requires.few-blocks _ c.no_parts-placed.ensures

pub block_for-b-requires : goal.block_for-b-requires
block_for-b-requires c = (c.requires.some_block, c.requires.few-blocks)

pub part_cost-requires : goal.part_cost-requires
part_cost-requires c = (omega (arith, c.requires.parts), c.requires.stages c.loop-i.i (omega arith))

pub put_part-requires : goal.put_part-requires
put_part-requires c =
    put_ready _ _ _ _ c.requires.some_block c.requires.few-blocks _ _ _ c.loop-i.invariant _ c.block_for-b.ensures.0 _ c.part_cost.ensures
    (omega (arith, c.requires.few)) (λ j v. c.requires.stages j (omega arith))

pub put_block-requires : goal.put_block-requires
put_block-requires c = (
  omega (arith, c.requires.parts),
  omega (arith, placed_long _ _ _ _ c.requires.some_block c.requires.few-blocks _ _ _ c.loop-i.invariant, c.requires.inside),
  omega (arith, c.block_for-b.ensures.1, c.requires.few-blocks),
)

pub loop-i-preserved : goal.loop-i-preserved
loop-i-preserved c =
    placed_more _ _ _ _ c.requires.some_block c.requires.few-blocks _ _ _ c.loop-i.invariant _ c.block_for-b.ensures.0 _ c.part_cost.ensures
    _ c.put_part.ensures _ c.put_block.ensures

pub returns : goal.returns
returns c =
    let e : c.loop-i.i ≡ c.args.count = omega arith in
    record {
      room_after = rw e at c.loop-i.invariant.rows;
      costs = rw e at c.loop-i.invariant.costs;
      parts = rw e at (placed_counts _ _ _ _ c.requires.some_block c.requires.few-blocks _ _ _ c.loop-i.invariant);
    }
