-- The two cells of a row give the place of the body.
-- Assumes nothing.
use native.Mathlib.Omega.{arith}
use Rattle.script_layout.proofs.RowLaws.{cell_in, body_there}
use Rattle.script_layout.proofs.parts.part_of.Goals as goal

pub cell_at-low-requires : goal.cell_at-low-requires
cell_at-low-requires c = cell_in _ _ c.requires.0 _ c.requires.1 _ (omega arith)

pub cell_at-high-requires : goal.cell_at-high-requires
cell_at-high-requires c = cell_in _ _ c.requires.0 _ c.requires.1 _ (omega arith)

pub at-requires : goal.at-requires
at-requires c = body_there _ _ c.requires.0 _ c.requires.1 _ _ c.cell_at-low.ensures c.cell_at-high.ensures
