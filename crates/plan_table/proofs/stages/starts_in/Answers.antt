-- `plan_blocks::stages::starts_in` meets its contract: the sums turned into starts are what comes before each part.
-- Assumes nothing.
use mathlib.Core.Path.{◌∙◌}
use Rattle.plan_blocks.proofs.MajorStageLaws.{stage_total, stage_fits, stage_takes, stage_starts_lem}
use Rattle.plan_table.proofs.stages.starts_in.Goals as goal

pub make_starts-next-requires : goal.make_starts-next-requires
make_starts-next-requires c =
    stage_fits _ c.args.sums.now _ _ _ _ _ _ c.requires.0 _ c.add_words.ensures

pub take_starts-requires : goal.take_starts-requires
take_starts-requires c =
    stage_takes _ c.args.sums.now _ _ _ _ _ _ c.requires.0 _ c.add_words.ensures _ c.make_starts-next.ensures.sums_after

pub returns : goal.returns
returns c =
    record {
      value = c.make_starts-next.ensures.value ∙ stage_total _ c.args.sums.now _ _ _ _ _ _ c.requires.0 _ c.add_words.ensures;
      room_after = c.take_starts.ensures.room_after ∙ stage_starts_lem _ c.args.sums.now _ _ _ _ _ _ c.requires.0 _ c.add_words.ensures _ c.make_starts-next.ensures.sums_after;
    }
