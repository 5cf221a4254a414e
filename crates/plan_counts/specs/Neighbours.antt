-- Counting over a list in order: an element is a step where it differs from the one after it, and an extra activation where it differs
-- from the one after it and has the same pin. Of a sorted list the steps are the different numbers, and the extras what duplicate words are made of.
-- Assumes nothing.
use Rattle.std.specs.Prelude.{true, false, List, [], ◌∷◌, ℕ, suc, ◌+◌, ◌/◌, ◌^◌, eqb}

unfoldable pub steps : List ℕ → ℕ
steps [] = 0
steps (x ∷ []) = 1
steps (x ∷ (y ∷ ys)) = elim (eqb y x) [ true ↦ steps (y ∷ ys) | false ↦ suc (steps (y ∷ ys)) ]

-- 1 where two activations of one pin differ, else 0
unfoldable pub extra : ℕ → ℕ → ℕ
extra x y = elim (eqb y x) [ true ↦ 0 | false ↦ elim (eqb (y / 2 ^ 33) (x / 2 ^ 33)) [ true ↦ 1 | false ↦ 0 ] ]

unfoldable pub extras : List ℕ → ℕ
extras [] = 0
extras (x ∷ []) = 0
extras (x ∷ (y ∷ ys)) = extra x y + extras (y ∷ ys)
