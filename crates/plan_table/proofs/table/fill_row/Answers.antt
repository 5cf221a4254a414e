-- `plan_blocks::table::fill_row` meets its contract.
-- Assumes nothing.
use Rattle.plan_table.proofs.AllPartsLaws.{locations_few, row_filled}
use Rattle.plan_table.proofs.table.fill_row.Goals as goal

pub put_body-requires : goal.put_body-requires
put_body-requires c =
    (c.requires.0.part, c.requires.0.inside, locations_few _ _ _ _ c.requires.0)

pub returns : goal.returns
returns c =
    row_filled _ _ _ _ _ c.args.part.now.body c.counts_of-counts.result c.put_body.ensures c.put_counts.ensures
    c.requires.0.countable.body c.counts_of-counts.ensures
