-- The starts rise, and those not above w are those below w + 1.
-- Assumes nothing.
use Prim.Native.Nat.{◌+◌}
use borrow.Author.Rules.{rules}
use Rattle.plan_positions.specs.Places.{ranked_start}
use Rattle.plan_positions.proofs.StateOrderLaws.{row_in, starts_rise}
use Rattle.plan_positions.proofs.ranks.parts_up_to.Goals as goal

pub partition_point-requires : goal.partition_point-requires
partition_point-requires c = λ i h. search (rules, row_in c.args.room.now c.args.n c.requires i h)

pub returns : goal.returns
returns c =
    (c.partition_point.ensures.least (ranked_start c.args.room.now) (c.args.w + 1) (starts_rise c.args.room.now c.args.n c.requires) (λ i h b e. search rules), c.partition_point.ensures.most)
