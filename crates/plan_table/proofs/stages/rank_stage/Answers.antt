-- `plan_blocks::stages::rank_stage` meets its contract: the part counts turned into starts are the ranks.
-- Assumes nothing.
use mathlib.Core.Path.{◌∙◌}
use Rattle.plan_blocks.proofs.MajorStageLaws.{ranks_fit, ranks_ready, ranks_are}
use Rattle.plan_table.proofs.stages.rank_stage.Goals as goal

pub make_starts-requires : goal.make_starts-requires
make_starts-requires c =
    ranks_fit _ _ _ _ _ c.requires _ _ c.give_blocks.ensures.room_after c.give_blocks.ensures.counts_after

pub rank_parts-requires : goal.rank_parts-requires
rank_parts-requires c =
    ranks_ready _ _ _ _ _ c.requires _ _ c.give_blocks.ensures.room_after c.give_blocks.ensures.counts_after _ c.make_starts.ensures.sums_after

pub returns : goal.returns
returns c =
    c.rank_parts.ensures.room_after ∙ ranks_are _ _ _ _ _ c.requires _ _ c.give_blocks.ensures.room_after c.give_blocks.ensures.counts_after _ c.make_starts.ensures.sums_after
