-- Items of two numbers each, as words: first, second, first, second ..
-- Assumes nothing.
use Rattle.std.specs.Prelude.{List, [], ◌∷◌, ℕ}

-- the items of a list of words; a last word alone is none
unfoldable pub items_of_two : {A : Type 0} → (ℕ → ℕ → A) → List ℕ → List A
items_of_two item [] = []
items_of_two item (x ∷ []) = []
items_of_two item (x ∷ (y ∷ ws)) = item x y ∷ items_of_two item ws

-- and their words again
unfoldable pub pair_words : {A : Type 0} → (A → ℕ) → (A → ℕ) → List A → List ℕ
pair_words first second [] = []
pair_words first second (a ∷ l) = first a ∷ (second a ∷ pair_words first second l)
