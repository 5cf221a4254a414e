-- No part starts at w or before it; or the last one that does is the only one that can hold w.
-- Assumes nothing.
use native.Mathlib.Omega.{arith}
use Rattle.plan_positions.proofs.StateOrderLaws.{row_in, normal_none, normal_start, normal_last}
use Rattle.plan_positions.proofs.ranks.is_normal.Goals as goal

pub returns-then-k-eq0 : goal.returns-then-k-eq0
returns-then-k-eq0 c =
    normal_none c.args.room.now c.args.n c.requires c.args.w _ c.parts_up_to-k.ensures.0 c.if-k-eq0.true

pub ranked_cell-start-requires : goal.ranked_cell-start-requires
ranked_cell-start-requires c =
    (row_in c.args.room.now c.args.n c.requires _ (omega (arith, c.parts_up_to-k.ensures.1)), omega arith)

pub overflow_sub-result : goal.overflow_sub-result
overflow_sub-result c =
    omega (arith, c.ranked_cell-start.ensures, normal_start c.args.room.now c.args.n c.requires c.args.w _ c.parts_up_to-k.ensures.0 (omega arith))

pub ranked_cell-requires : goal.ranked_cell-requires
ranked_cell-requires c =
    (row_in c.args.room.now c.args.n c.requires _ (omega (arith, c.parts_up_to-k.ensures.1)), omega arith)

pub returns : goal.returns
returns c =
    rw (c.ranked_cell-start.ensures, c.ranked_cell.ensures)
    (normal_last c.args.room.now c.args.n c.requires c.args.w _ c.parts_up_to-k.ensures.0 (omega arith) c.parts_up_to-k.ensures.1)
