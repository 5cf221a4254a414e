-- `plan_blocks::stages::place_stage` meets its contract: it lends the first of 1024 zeros.
-- Assumes nothing.
use mathlib.Core.Path.{ap, sym, subst, ◌∙◌}
use Prim.Native.Nat.{ℕ}
use Rattle.plan_blocks.specs.TableFill.{ranked_rows, StagePlaceable}
use Rattle.plan_blocks.proofs.MajorStageLaws.{zeros_long}
use Rattle.plan_table.proofs.stages.place_stage.Goals as goal

pub slice_bounds-rank_stage-end : goal.slice_bounds-rank_stage-end
slice_bounds-rank_stage-end c = zeros_long 1024 c.args.blocks c.requires.few-blocks

pub rank_stage-requires : goal.rank_stage-requires
rank_stage-requires c =
    subst (λ (B : ℕ). StagePlaceable c.args.d.now c.args.room.now B c.args.base c.args.count) (zeros_long 1024 c.args.blocks c.requires.few-blocks) c.requires

pub returns : goal.returns
returns c =
    c.rank_stage.ensures
    ∙ ap (λ (B : ℕ). ranked_rows c.args.d.now c.args.room.now B c.args.base c.args.count) (sym (zeros_long 1024 c.args.blocks c.requires.few-blocks))
