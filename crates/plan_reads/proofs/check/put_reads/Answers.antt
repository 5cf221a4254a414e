-- The rounds and the piece size of the reads are put into the row.
-- Assumes nothing.
use mathlib.Core.Path.{◌∙◌}
use native.Mathlib.Omega.{arith}
use Rattle.plan_reads.proofs.check.put_reads.Goals as goal

pub put_cell-requires : goal.put_cell-requires
put_cell-requires c =
    record { part = c.requires.0; column = omega arith; inside = omega (arith, c.requires.1) }

pub put_cell-requires-2 : goal.put_cell-requires-2
put_cell-requires-2 c =
    record { part = c.requires.0; column = omega arith; inside = omega (arith, c.requires.1, c.put_cell.auto.room) }

pub returns : goal.returns
returns c =
    c.put_cell-2.ensures ∙ rw (c.kept-placed.ensures.1, c.put_cell.ensures, c.kept-placed.ensures.0)
