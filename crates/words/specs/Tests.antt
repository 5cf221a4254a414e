-- Tests over the numbers below a bound, and the lowest that fails: what "the lowest such pair is reported" rests on.
-- Assumes nothing.
use Rattle.std.specs.Prelude.{Bool, true, false, ◌&&◌, ◌||◌, ℕ, zero, suc, ◌+◌}
use Rattle.std.proofs.Math.Option.{Option, none, some}

-- whether f holds of each number below n
unfoldable pub all_below : (ℕ → Bool) → ℕ → Bool
all_below f zero = true
all_below f (suc n) = all_below f n && f n

-- whether f holds of some number below n
unfoldable pub some_below : (ℕ → Bool) → ℕ → Bool
some_below f zero = false
some_below f (suc n) = some_below f n || f n

-- the lowest of the m numbers from i on that f does not hold of
unfoldable pub first_from : (ℕ → Bool) → ℕ → ℕ → Option ℕ
first_from f zero i = none
first_from f (suc m) i = elim (f i) [ true ↦ first_from f m (i + 1) | false ↦ some i ]

abbrev pub first_not : (ℕ → Bool) → ℕ → Option ℕ
first_not f n = first_from f n 0

-- a place: part and item
pub record Place : Type 0 where
  pub part : ℕ
  pub item : ℕ

-- the lowest place, over the m parts from p on: `bad p` is the lowest item of part p that is refused
unfoldable pub lowest_from : (ℕ → Option ℕ) → ℕ → ℕ → Option Place
lowest_from bad zero p = none
lowest_from bad (suc m) p = elim (bad p) [ some i ↦ some (record { part = p; item = i }) | none ↦ lowest_from bad m (p + 1) ]

abbrev pub lowest : (ℕ → Option ℕ) → ℕ → Option Place
lowest bad n = lowest_from bad n 0
