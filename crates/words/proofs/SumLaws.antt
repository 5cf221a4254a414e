-- Laws of a sum over the numbers below a bound.
-- Assumes nothing.
use mathlib.Core.Path.{◌≡◌, refl, ap₂}
use Prim.Native.Nat.{ℕ, zero, suc, ◌+◌, ◌≤◌, ◌<◌}
use native.Mathlib.Numerals.{add-one}
use native.Mathlib.Omega.{arith}
use mathlib.Core.Logic.{⊎_elim}
use Rattle.words.specs.Sum.{sum_to}
use Rattle.words.proofs.BitLaws.{lt_or_ge}

-- one number more
pub sum_more : (f : ℕ → ℕ) (n : ℕ) → sum_to f (n + 1) ≡ sum_to f n + f n
unfolding sum_to
sum_more f n = rw add-one

-- a longer sum is not smaller
pub sum_le : (f : ℕ → ℕ) (m n : ℕ) → m ≤ n → sum_to f m ≤ sum_to f n
unfolding sum_to
sum_le f m zero h = let e : m ≡ 0 = omega arith in rw e (omega arith)
sum_le f m (suc n) h = ⊎_elim (λ k. omega (arith, sum_le f m n (omega arith))) (λ k. let e : m ≡ suc n = omega arith in rw e (omega arith)) (lt_or_ge m (suc n))

-- two sums of the same numbers
pub sum_ext : (f g : ℕ → ℕ) (n : ℕ) → ((i : ℕ) → i < n → f i ≡ g i) → sum_to f n ≡ sum_to g n
unfolding sum_to
sum_ext f g zero h = refl
sum_ext f g (suc n) h = ap₂ ◌+◌ (sum_ext f g n (λ i k. h i (omega arith))) (h n (omega arith))
