-- `plan_blocks::stages::give_starts` meets its contract: it lends the first of 1024 zeros.
-- Assumes nothing.
use Rattle.plan_blocks.proofs.MajorStageLaws.{zeros_long, front_summable}
use Rattle.plan_table.proofs.stages.give_starts.Goals as goal

pub slice_bounds-starts_in-end : goal.slice_bounds-starts_in-end
slice_bounds-starts_in-end c = zeros_long 1024 c.args.blocks c.requires.few-blocks

pub starts_in-requires : goal.starts_in-requires
starts_in-requires c =
    front_summable c.args.room.now 1024 c.args.blocks _ _ _ _ _ _ c.requires.few-blocks c.requires
