-- A search by halves over a function of the index: where it starts, how it goes right and left, and that it ends at the least index.
-- Assumes nothing.
use mathlib.Core.Path.{◌≡◌, refl, ap}
use mathlib.Core.Bool.{Bool, true, false}
use Prim.Native.Nat.{ℕ, zero, suc, ◌+◌, ◌≤◌, ◌<◌, zero-le}
use native.Mathlib.Nat.{not-suc-le-zero}
use native.Mathlib.Numerals.{add-one}
use native.Mathlib.Omega.{arith}
use lib.Dec.{leb}
use borrow.Author.Tests.{le-leb, lt-leb, leb-true, leb-false}
use Rattle.sort.specs.HalfSearch.{Monotone, least, Between}

-- f does not fall where no step falls
pub monotone_steps : (f : ℕ → ℕ) (n : ℕ) → ((i : ℕ) → i + 1 < n → f i ≤ f (i + 1)) → Monotone f n
monotone_steps f n h i zero le lt = let e : i ≡ zero = omega arith in rw e (omega arith)
monotone_steps f n h i (suc j) le lt = go (leb i j) refl (monotone_steps f n h i j)
  where
    go : (b : Bool) → leb i j ≡ b → (i ≤ j → j < n → f i ≤ f j) → f i ≤ f (suc j)
    go true e r =
        let s : f j ≤ f (suc j) = rw add-one at (h j (omega arith)) in
        omega (arith, r (leb-true i j e) (omega arith))
    go false e r = let g : i ≡ suc j = omega (arith, leb-false i j e) in rw g (omega arith)

module _ (f : ℕ → ℕ) (n x : ℕ) where
  pub search_start : Between f n x 0 n
  search_start = record { order = zero-le; within = omega arith; under = λ i h. absurd (not-suc-le-zero h); over = λ i h g. absurd (omega arith) }

  pub search_right : (low middle high : ℕ) → Monotone f n → Between f n x low high → middle < high → f middle < x → Between f n x (middle + 1) high
  search_right low middle high m b h less = record {
    order = omega arith;
    within = b.within;
    under = λ i g. let s : f i ≤ f middle = m i middle (omega arith) (omega (arith, b.within)) in omega arith;
    over = b.over;
  }

  pub search_left : (low middle high : ℕ) → Monotone f n → Between f n x low high → low ≤ middle → middle < high → x ≤ f middle → Between f n x low middle
  search_left low middle high m b l h more = record {
    order = l;
    within = omega (arith, b.within);
    under = b.under;
    over = λ i g k. let s : f middle ≤ f i = m middle i g k in omega arith;
  }

  -- where x stands anywhere, it stands where the search ends
  pub search_found : (r i : ℕ) → Monotone f n → Between f n x r r → i < n → f i ≡ x → (r < n) × (f r ≡ x)
  search_found r i m b h e = go (leb r i) refl
    where
      go : (t : Bool) → leb r i ≡ t → (r < n) × (f r ≡ x)
      go true t =
          let le : r ≤ i = leb-true r i t in
          let up : f r ≤ f i = m r i le h in
          (omega arith, omega (arith, b.over r (omega arith) (omega arith)))
      go false t = absurd (omega (arith, b.under i (leb-false r i t)))

-- the least index is the one that parts what is less than x from what is not
pub between_least : (f : ℕ → ℕ) (n x r : ℕ) → Between f n x r r → r ≡ least f n x
unfolding least
between_least f zero x r b = omega (arith, b.within)
between_least f (suc n) x zero b = rw (le-leb x (f zero) (b.over zero zero-le (omega arith)), least)
between_least f (suc n) x (suc r) b =
    let inner : Between (λ i. f (suc i)) n x r r = record {
      order = omega arith;
      within = omega (arith, b.within);
      under = λ i h. b.under (suc i) (omega arith);
      over = λ i h g. b.over (suc i) (omega arith) (omega arith);
    } in
    rw (lt-leb x (f zero) (b.under zero (omega arith)), least) (ap suc (between_least (λ i. f (suc i)) n x r inner))

-- one index more in front, less than x
first_under : (f : ℕ → ℕ) (x r : ℕ) → f zero < x → ((i : ℕ) → i < r → f (suc i) < x) → (i : ℕ) → i < suc r → f i < x
first_under f x r h u zero g = h
first_under f x r h u (suc i) g = u i (omega arith)

first_over : (f : ℕ → ℕ) (n x r : ℕ) → ((i : ℕ) → r ≤ i → i < n → x ≤ f (suc i)) → (i : ℕ) → suc r ≤ i → i < suc n → x ≤ f i
first_over f n x r o zero k g = absurd (not-suc-le-zero k)
first_over f n x r o (suc i) k g = o i (omega arith) (omega arith)

after_first : (f : ℕ → ℕ) (n x r : ℕ) → f zero < x → Between (λ i. f (suc i)) n x r r → Between f (suc n) x (suc r) (suc r)
after_first f n x r h b = record {
  order = omega arith;
  within = omega (arith, b.within);
  under = first_under f x r h b.under;
  over = first_over f n x r b.over;
}

-- and where f does not fall the least index parts them
pub least_between : (f : ℕ → ℕ) (n x : ℕ) → Monotone f n → Between f n x (least f n x) (least f n x)
unfolding least
least_between f zero x m = record { order = omega arith; within = omega arith; under = λ i h. absurd (not-suc-le-zero h); over = λ i h g. absurd (not-suc-le-zero g) }
least_between f (suc n) x m = go (leb x (f zero)) refl (least_between (λ i. f (suc i)) n x (λ i j h g. m (suc i) (suc j) (omega arith) (omega arith)))
  where
    go : (b : Bool) → leb x (f zero) ≡ b → Between (λ i. f (suc i)) n x (least (λ i. f (suc i)) n x) (least (λ i. f (suc i)) n x) → Between f (suc n) x (least f (suc n) x) (least f (suc n) x)
    go true e r = rw (e, least) (record {
      order = omega arith;
      within = zero-le;
      under = λ i h. absurd (not-suc-le-zero h);
      over = λ i h g. let s : f zero ≤ f i = m zero i zero-le g in omega (arith, leb-true x (f zero) e);
    })
    go false e r = rw (e, least) (after_first f n x (least (λ i. f (suc i)) n x) (leb-false x (f zero) e) r)
