-- The words of the input layout, and a column of the part table, summed.
-- Assumes nothing.
use Rattle.std.proofs.Common.{◌≡◌, ◌+◌, ◌/◌, arith}
use Rattle.plan_blocks.proofs.TallyLaws.{majors_few, column_in, state_sum}
use Rattle.plan_blocks.proofs.totals.state_words.Goals as goal

pub parts_of-requires : goal.parts_of-requires
parts_of-requires c = majors_few _ _ c.requires

pub column_sum-requires : goal.column_sum-requires
column_sum-requires c = column_in _ _ c.requires _ c.parts_of.ensures.0 _ (omega arith)

pub returns : goal.returns
returns c =
    let words : c.div_ceil.result ≡ (c.layout_of.result + 31) / 32 = omega arith in
    rw words (state_sum _ _ c.requires _ c.parts_of.ensures.0 _ _ c.layout_of.ensures c.column_sum.ensures.0)
