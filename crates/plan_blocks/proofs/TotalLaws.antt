-- Laws of sums over the numbers below a bound: of two functions, term by term, of one number alone, of two bounds one after the other, and in
-- either order. Each is by induction over the bound.
-- Assumes nothing.
use mathlib.Core.Path.{◌≡◌, refl, sym, ap, ◌∙◌}
use mathlib.Core.Bool.{Bool, true, false}
use mathlib.Core.Logic.{◌⊎◌, inl, inr, ⊎_elim}
use Prim.Native.Nat.{ℕ, zero, suc, ◌+◌, ◌*◌, ◌≤◌, ◌<◌}
use native.Mathlib.Nat.{not-suc-le-zero, add-zero, add-suc}
use native.Mathlib.Omega.{arith}
use borrow.Author.Tests.{eq-eqb, ne_eqb, lt-ltb, le-ltb}
use lib.Dec.{eqb, ltb}
use Rattle.words.specs.Sum.{sum_to}
use Rattle.words.proofs.BitLaws.{lt_or_ge}
use Rattle.plan_blocks.specs.Sums.{where_true}

pub three_ways : (a b : ℕ) → (a < b) ⊎ ((a ≡ b) ⊎ (b < a))
three_ways a b = ⊎_elim (λ l. inl l) (λ g. ⊎_elim (λ l. inr (inr l)) (λ h. inr (inl (omega arith))) (lt_or_ge b a)) (lt_or_ge a b)

pub same_or : (a b : ℕ) → (a ≡ b) ⊎ (a ≡ b → ⊥)
same_or a b = ⊎_elim (λ l. inr (λ e. omega arith)) (λ r. ⊎_elim (λ e. inl e) (λ l. inr (λ e. omega arith)) r) (three_ways a b)

pub given_le : (b : Bool) (w : ℕ) → where_true b w ≤ w
given_le true w = omega arith
given_le false w = omega arith

pub given_true : (b : Bool) (w : ℕ) → b ≡ true → where_true b w ≡ w
given_true b w e = rw e

pub given_false : (b : Bool) (w : ℕ) → b ≡ false → where_true b w ≡ 0
given_false b w e = rw e

pub sum_zero : (f : ℕ → ℕ) (n : ℕ) → ((i : ℕ) → i < n → f i ≡ 0) → sum_to f n ≡ 0
unfolding sum_to
sum_zero f zero h = refl
sum_zero f (suc n) h = omega (arith, sum_zero f n (λ i k. h i (omega arith)), h n (omega arith))

pub sum_const : (k n : ℕ) → sum_to (λ i. k) n ≡ k * n
unfolding sum_to
sum_const k zero = omega arith
sum_const k (suc n) = omega (arith, sum_const k n)

pub sum_add : (f g : ℕ → ℕ) (n : ℕ) → sum_to (λ i. f i + g i) n ≡ sum_to f n + sum_to g n
unfolding sum_to
sum_add f g zero = refl
sum_add f g (suc n) = omega (arith, sum_add f g n)

pub sum_scale : (k : ℕ) (f : ℕ → ℕ) (n : ℕ) → sum_to (λ i. k * f i) n ≡ k * sum_to f n
unfolding sum_to
sum_scale k f zero = omega arith
sum_scale k f (suc n) = omega (arith, sum_scale k f n)

pub sum_mono : (f g : ℕ → ℕ) (n : ℕ) → ((i : ℕ) → i < n → f i ≤ g i) → sum_to f n ≤ sum_to g n
unfolding sum_to
sum_mono f g zero h = omega arith
sum_mono f g (suc n) h = omega (arith, sum_mono f g n (λ i k. h i (omega arith)), h n (omega arith))

-- a bound for each term
pub sum-most : (k : ℕ) (f : ℕ → ℕ) (n : ℕ) → ((i : ℕ) → i < n → f i ≤ k) → sum_to f n ≤ k * n
sum-most k f n h = omega (arith, sum_mono f (λ i. k) n h, sum_const k n)

-- one bound after the other
pub sum_split : (f : ℕ → ℕ) (m n : ℕ) → sum_to f (m + n) ≡ sum_to f m + sum_to (λ i. f (m + i)) n
unfolding sum_to
sum_split f m zero = ap (sum_to f) (add-zero m) ∙ sym (add-zero _)
sum_split f m (suc n) = ap (sum_to f) (add-suc m n) ∙ omega (arith, sum_split f m n)

-- in either order
pub sum_swap : (f : ℕ → ℕ → ℕ) (m n : ℕ) → sum_to (λ i. sum_to (f i) n) m ≡ sum_to (λ j. sum_to (λ i. f i j) m) n
unfolding sum_to
sum_swap f zero n = sym (sum_zero (λ j. 0) n (λ i k. refl))
sum_swap f (suc m) n = ap (λ (x : ℕ). x + sum_to (f m) n) (sum_swap f m n) ∙ sym (sum_add (λ j. sum_to (λ i. f i j) m) (f m) n)

-- the term of one number alone
pub sum_only : (f : ℕ → ℕ) (n k : ℕ) → k < n → sum_to (λ i. where_true (eqb i k) (f i)) n ≡ f k
unfolding sum_to
sum_only f zero k h = absurd (not-suc-le-zero h)
sum_only f (suc n) k h =
    ⊎_elim
    (λ l.
    omega (arith, sum_only f n k l, given_false (eqb n k) (f n) (ne_eqb n k (omega arith))))
    (λ l.
    let e : n ≡ k = omega arith in
    omega (
      arith,
      sum_zero (λ i. where_true (eqb i k) (f i)) n (λ i g. given_false (eqb i k) (f i) (ne_eqb i k (omega arith))),
      given_true (eqb n k) (f n) (eq-eqb n k e),
      ap f e,
    ))
    (lt_or_ge k n)

-- a number k is met once by the numbers below n if it is below n, else never
pub sum_meets : (w k n : ℕ) → sum_to (λ b. where_true (eqb k b) w) n ≡ where_true (ltb k n) w
unfolding sum_to
sum_meets w k zero = sym (given_false (ltb k 0) w (le-ltb k 0 (omega arith)))
sum_meets w k (suc n) = ⊎_elim (below (sum_meets w k n)) (λ r. ⊎_elim (here (sum_meets w k n)) (above (sum_meets w k n)) r) (three_ways k n)
  where
    below : sum_to (λ b. where_true (eqb k b) w) n ≡ where_true (ltb k n) w → k < n → sum_to (λ b. where_true (eqb k b) w) n + where_true (eqb k n) w ≡ where_true (ltb k (suc n)) w
    below r l =
        omega (
          arith,
          given_true (ltb k n) w (lt-ltb k n l),
          given_false (eqb k n) w (ne_eqb k n (omega arith)),
          given_true (ltb k (suc n)) w (lt-ltb k (suc n) (omega arith)),
        )

    here : sum_to (λ b. where_true (eqb k b) w) n ≡ where_true (ltb k n) w → k ≡ n → sum_to (λ b. where_true (eqb k b) w) n + where_true (eqb k n) w ≡ where_true (ltb k (suc n)) w
    here r e =
        omega (
          arith,
          given_false (ltb k n) w (le-ltb k n (omega arith)),
          given_true (eqb k n) w (eq-eqb k n e),
          given_true (ltb k (suc n)) w (lt-ltb k (suc n) (omega arith)),
        )

    above : sum_to (λ b. where_true (eqb k b) w) n ≡ where_true (ltb k n) w → n < k → sum_to (λ b. where_true (eqb k b) w) n + where_true (eqb k n) w ≡ where_true (ltb k (suc n)) w
    above r l =
        omega (
          arith,
          given_false (ltb k n) w (le-ltb k n (omega arith)),
          given_false (eqb k n) w (ne_eqb k n (omega arith)),
          given_false (ltb k (suc n)) w (le-ltb k (suc n) (omega arith)),
        )
