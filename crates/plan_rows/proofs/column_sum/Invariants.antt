-- The loop's invariant: the sum of the first p rows.
-- Assumes nothing.
use mathlib.Core.Path.{◌≡◌}
use Prim.Native.Nat.{◌*◌, ◌≤◌}
use Rattle.words.specs.Sum.{sum_to}
use Rattle.plan_rows.specs.Rows.{cell_at}
use Rattle.plan_rows.proofs.column_sum.Given as goal

abbrev pub invariant-loop-p : goal.invariant-loop-p
invariant-loop-p l = (l.sum ≡ sum_to (λ q. cell_at l.room q l.k) l.p) × (l.sum ≤ 4294967295 * l.p)
