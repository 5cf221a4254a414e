-- The cells of a row are the part's numbers.
-- Assumes nothing.
use mathlib.Core.Path.{refl}
use native.Mathlib.Omega.{arith}
use Rattle.script_layout.proofs.RowLaws.{cell_in, row_numbers}
use Rattle.script_layout.proofs.parts.numbers_of.Goals as goal

pub cell_at-requires : goal.cell_at-requires
cell_at-requires c = cell_in _ _ c.requires.0 _ c.requires.1 _ (omega arith)

pub cell_at-requires-2 : goal.cell_at-requires-2
cell_at-requires-2 c = cell_in _ _ c.requires.0 _ c.requires.1 _ (omega arith)

pub cell_at-requires-3 : goal.cell_at-requires-3
cell_at-requires-3 c = cell_in _ _ c.requires.0 _ c.requires.1 _ (omega arith)

pub cell_at-requires-4 : goal.cell_at-requires-4
cell_at-requires-4 c = cell_in _ _ c.requires.0 _ c.requires.1 _ (omega arith)

pub cell_at-requires-5 : goal.cell_at-requires-5
cell_at-requires-5 c =
    cell_in _ _ c.requires.0 _ c.requires.1 _ (omega arith)

pub cell_at-requires-6 : goal.cell_at-requires-6
cell_at-requires-6 c =
    cell_in _ _ c.requires.0 _ c.requires.1 _ (omega arith)

pub returns : goal.returns
returns c =
    record { numbers_of = row_numbers _ _ c.requires.0 _ c.requires.1 _ c.args.part.now.of _ refl c.cell_at.ensures c.cell_at-3.ensures c.cell_at-5.ensures c.cell_at-6.ensures; last_value = (refl, c.cell_at-2.ensures, c.cell_at-4.ensures) }
