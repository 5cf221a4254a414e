-- How often a number stands in a list.
-- Assumes nothing.
use Rattle.std.specs.Prelude.{true, false, List, [], ◌∷◌, ℕ, ◌+◌, eqb}

-- 1 where v is y, else 0
unfoldable pub same : ℕ → ℕ → ℕ
same v y = elim (eqb v y) [ true ↦ 1 | false ↦ 0 ]

-- how many elements are v
unfoldable pub count : ℕ → List ℕ → ℕ
count v [] = 0
count v (y ∷ ys) = same v y + count v ys
