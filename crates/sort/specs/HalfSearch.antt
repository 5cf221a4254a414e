-- What a search by halves finds, over a function of the index, so that a list kept in any form can be searched.
-- Assumes nothing: these are definitions.
use Rattle.std.specs.Prelude.{true, false, ℕ, zero, suc, ◌≤◌, ◌<◌, leb}

-- f does not fall on the indices below n
abbrev pub Monotone : (ℕ → ℕ) → ℕ → Type 0
Monotone f n = (i j : ℕ) → i ≤ j → j < n → f i ≤ f j

-- the first index below n where f is at least x, or n where there is none
unfoldable pub least : (ℕ → ℕ) → ℕ → ℕ → ℕ
least f zero x = zero
least f (suc n) x = elim (leb x (f zero)) [ true ↦ zero | false ↦ suc (least (λ i. f (suc i)) n x) ]

-- a search that has come down to the indices from low to high: f is less than x before them, and at least x after them
pub record Between (f : ℕ → ℕ) (n x low high : ℕ) : Type 0 where
  pub order : low ≤ high
  pub within : high ≤ n
  pub under : (i : ℕ) → i < low → f i < x
  pub over : (i : ℕ) → high ≤ i → i < n → x ≤ f i
