-- `plan_blocks::table::put_body` meets its contract: three cells, one after the other.
-- Assumes nothing.
use Prim.Native.Nat.{◌/◌, ◌%◌, ◌^◌}
use Rattle.plan_rows.specs.Columns as col
use Rattle.plan_rows.specs.Rows.{cell}
use Rattle.plan_table.proofs.AllPartsLaws.{three_cells}
use Rattle.plan_table.proofs.table.put_body.Goals as goal

pub returns : goal.returns
returns c =
    three_cells c.args.room.now c.put_cell.new.room c.put_cell-2.new.room c.put_cell-3.new.room
    (cell c.args.p col.body_low) (cell c.args.p col.body_high) (cell c.args.p col.locations) (c.args.at % 2 ^ 32) (c.args.at / 2 ^ 32) c.args.locations
    c.put_cell.ensures c.put_cell-2.ensures c.put_cell-3.ensures
