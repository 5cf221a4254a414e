-- The row of a rank names the part, whose row has the number.
-- Assumes nothing.
use mathlib.Core.Path.{ap, ◌∙◌}
use Prim.Native.Nat.{ℕ}
use Rattle.plan_rows.specs.Rows.{cell_at}
use Rattle.plan_positions.proofs.ranks.ranked_cell.Goals as goal

pub returns : goal.returns
returns c = c.cell_at-2.ensures ∙ ap (λ (p : ℕ). cell_at c.args.room.now p c.args.column) c.cell_at.ensures
