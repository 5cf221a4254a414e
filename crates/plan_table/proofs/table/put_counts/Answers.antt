-- `plan_blocks::table::put_counts` meets its contract: three cells, one after the other.
-- Assumes nothing.
use Rattle.plan_rows.specs.Columns as col
use Rattle.plan_rows.specs.Rows.{cell}
use Rattle.plan_table.proofs.AllPartsLaws.{three_cells}
use Rattle.plan_table.proofs.table.put_counts.Goals as goal

pub returns : goal.returns
returns c =
    three_cells c.args.room.now c.put_cell.new.room c.put_cell-2.new.room c.put_cell-3.new.room
    (cell c.args.p col.srams) (cell c.args.p col.duplicates) (cell c.args.p col.write_outs) c.args.srams c.args.duplicates c.args.words
    c.put_cell.ensures c.put_cell-2.ensures c.put_cell-3.ensures
