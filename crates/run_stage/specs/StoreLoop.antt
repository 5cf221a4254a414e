-- What a loop that stores word after word leaves: words a .. b - 1 of l are as P asks, and all others are those of l₀.
-- Assumes nothing.
use Rattle.std.specs.Prelude.{◌≡◌, List, ℕ, ◌≤◌, ◌<◌, length, get_or}

pub record Filled (P : ℕ → ℕ → Type 0) (a b : ℕ) (l₀ l : List ℕ) : Type 0 where
  pub long : length l ≡ length l₀
  pub done : (i : ℕ) → a ≤ i → i < b → P i (get_or l i 0)
  pub under : (i : ℕ) → i < a → get_or l i 0 ≡ get_or l₀ i 0
  pub over : (i : ℕ) → b ≤ i → get_or l i 0 ≡ get_or l₀ i 0
