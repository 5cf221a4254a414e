-- `plan_blocks::stages::allot_stage` meets its contract: blocks and ranks, then state starts, then SRAM starts.
-- Assumes nothing.
use mathlib.Core.Path.{◌∙◌}
use native.Mathlib.Omega.{arith}
use Rattle.plan_blocks.proofs.MajorStageLaws.{stage_parts, stage_placeable, state_total, state_summable, sram_total, sram_summable, rows_are}
use Rattle.plan_table.proofs.stages.allot_stage.Goals as goal

pub place_stage-requires : goal.place_stage-requires
place_stage-requires c = stage_placeable _ _ _ _ _ _ c.requires

pub give_starts-state-requires : goal.give_starts-state-requires
give_starts-state-requires c =
    state_summable _ _ _ _ _ _ c.requires _ c.place_stage.ensures

pub give_starts-sram-requires : goal.give_starts-sram-requires
give_starts-sram-requires c =
    sram_summable _ _ _ _ _ _ c.requires _ c.place_stage.ensures _ c.give_starts-state.ensures.room_after

pub overflow_add-result : goal.overflow_add-result
overflow_add-result c =
    let h = (stage_placeable _ _ _ _ _ _ c.requires).parts in
    omega (arith, h)

pub returns : goal.returns
returns c =
    record {
      firsts_of = record {
        parts = stage_parts _ _ _ _ _ _ c.requires;
        state = c.give_starts-state.ensures.value ∙ state_total _ _ _ _ _ _ c.requires _ c.place_stage.ensures;
        sram = c.give_starts-sram.ensures.value ∙ sram_total _ _ _ _ _ _ c.requires _ c.place_stage.ensures _ c.give_starts-state.ensures.room_after;
      };
      room_after = rows_are _ _ _ _ _ _ c.requires _ c.place_stage.ensures _ c.give_starts-state.ensures.room_after _ c.give_starts-sram.ensures.room_after;
    }
