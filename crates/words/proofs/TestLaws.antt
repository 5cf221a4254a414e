-- Laws of the tests over the numbers below a bound: what each gives at an index, its step in the code's terms (an index i below n, then i + 1)
-- and how it ends. Each is by induction over the bound, with the test at one number decided.
-- Assumes nothing.
use mathlib.Core.Path.{◌≡◌, refl, sym, ap, ap₂, ◌∙◌, subst}
use mathlib.Core.Bool.{Bool, true, false, ◌&&◌, ◌||◌, or-true, and-eq-true_iff}
use mathlib.Core.Logic.{◌⊎◌, inl, inr, ⊎_elim}
use mathlib.Core.Option.{Option, none, some}
use Prim.Native.Nat.{ℕ, zero, suc, ◌+◌, ◌-◌, ◌≤◌, ◌<◌}
use native.Mathlib.Omega.{arith}
use native.Mathlib.Nat.{not-suc-le-zero}
use native.Mathlib.Numerals.{add-one}
use Rattle.words.proofs.BitLaws.{lt_or_ge}
use Rattle.words.specs.Tests.{all_below, some_below, first_from, first_not, Place, lowest_from, lowest}

-- ---- truths

pub not_both : (b : Bool) → b ≡ true → b ≡ false → ⊥
not_both b t f =
    let e : true ≡ false = sym t ∙ f in
    let z : ◌≡◌ {A = ℕ} 0 1 = cc in
    omega arith

pub and_true : (a b : Bool) → (a && b) ≡ true → (a ≡ true) × (b ≡ true)
and_true a b = (and-eq-true_iff a b).0

pub true_and : (a b : Bool) → a ≡ true → b ≡ true → (a && b) ≡ true
true_and a b p q = ap₂ ◌&&◌ p q

pub or_cases : (a b : Bool) → (a || b) ≡ true → (a ≡ true) ⊎ (b ≡ true)
or_cases true b h = inl refl
or_cases false b h = inr h

pub not_true_false : (b : Bool) → (b ≡ true → ⊥) → b ≡ false
not_true_false true h = absurd (h refl)
not_true_false false h = refl

-- ---- a found answer

pub some_not_none : {A : Type 0} {x : A} → some x ≡ none → ⊥
some_not_none {A} {x} h = let z : ◌≡◌ {A = ℕ} 0 1 = cc in omega arith

-- ---- a number below n + 1 is below n, or n

below_or : (i n : ℕ) → i < suc n → (i < n) ⊎ (i ≡ n)
below_or i zero h = inr (omega arith)
below_or zero (suc n) h = inl (omega arith)
below_or (suc i) (suc n) h = ⊎_elim (λ l. inl (omega arith)) (λ e. inr (ap suc e)) (below_or i n (omega arith))

-- ---- all below

pub all_more : (f : ℕ → Bool) (n : ℕ) → all_below f (n + 1) ≡ (all_below f n && f n)
unfolding all_below
all_more f n = rw add-one

pub all_at : (f : ℕ → Bool) (n i : ℕ) → all_below f n ≡ true → i < n → f i ≡ true
unfolding all_below
all_at f zero i h l = absurd (not-suc-le-zero l)
all_at f (suc n) i h l =
    let both = and_true (all_below f n) (f n) h in
    ⊎_elim (λ k. all_at f n i both.0 k) (λ e. ap f e ∙ both.1) (below_or i n l)

pub all_on : (f : ℕ → Bool) (n : ℕ) → all_below f n ≡ true → f n ≡ true → all_below f (n + 1) ≡ true
all_on f n h k = all_more f n ∙ true_and _ _ h k

pub all_true : (f : ℕ → Bool) (n : ℕ) → ((i : ℕ) → i < n → f i ≡ true) → all_below f n ≡ true
unfolding all_below
all_true f zero h = refl
all_true f (suc n) h = true_and _ _ (all_true f n (λ i l. h i (omega arith))) (h n (omega arith))

pub all_less : (f : ℕ → Bool) (m n : ℕ) → m ≤ n → all_below f n ≡ true → all_below f m ≡ true
all_less f m n l h = all_true f m (λ i k. all_at f n i h (omega arith))

pub all_fault : (f : ℕ → Bool) (n i : ℕ) → i < n → f i ≡ false → all_below f n ≡ false
all_fault f n i l h = go (all_below f n) refl
  where
    go : (b : Bool) → all_below f n ≡ b → b ≡ false
    go true e = absurd (not_both (f i) (all_at f n i e l) h)
    go false e = refl

-- ---- some below

pub some_more : (f : ℕ → Bool) (n : ℕ) → some_below f (n + 1) ≡ (some_below f n || f n)
unfolding some_below
some_more f n = rw add-one

pub some_false : (f : ℕ → Bool) (n : ℕ) → ((i : ℕ) → i < n → f i ≡ false) → some_below f n ≡ false
unfolding some_below
some_false f zero h = refl
some_false f (suc n) h = ap₂ ◌||◌ (some_false f n (λ i l. h i (omega arith))) (h n (omega arith))

pub some_found : (f : ℕ → Bool) (n : ℕ) → some_below f n ≡ true → (i : ℕ) × (i < n) × (f i ≡ true)
unfolding some_below
some_found f zero h = absurd (not_both false h refl)
some_found f (suc n) h = go (some_below f n) refl (some_found f n)
  where
    go : (b : Bool) → some_below f n ≡ b → (some_below f n ≡ true → (i : ℕ) × (i < n) × (f i ≡ true)) → (i : ℕ) × (i < suc n) × (f i ≡ true)
    go true e r = let (i, l, k) = r e in (i, omega arith, k)
    go false e r = (n, omega arith, ap (λ (b : Bool). b || f n) (sym e) ∙ h)

pub some_at : (f : ℕ → Bool) (n i : ℕ) → i < n → f i ≡ true → some_below f n ≡ true
unfolding some_below
some_at f zero i l h = absurd (not-suc-le-zero l)
some_at f (suc n) i l h =
    ⊎_elim (λ k. ap (λ (b : Bool). b || f n) (some_at f n i k h))
    (λ k. ap (λ (b : Bool). some_below f n || b) (ap f (sym k) ∙ h) ∙ or-true (some_below f n))
    (below_or i n l)

pub some_none : (f : ℕ → Bool) (n i : ℕ) → some_below f n ≡ false → i < n → f i ≡ false
some_none f n i h l = go (f i) refl
  where
    go : (b : Bool) → f i ≡ b → b ≡ false
    go true e = absurd (not_both (some_below f n) (some_at f n i l e) h)
    go false e = refl

-- ---- the first that a test refuses: a loop at i below n asks for `first_from f (n - i) i`

pub first_here : (f : ℕ → Bool) (m i : ℕ) → 0 < m → f i ≡ false → first_from f m i ≡ some i
unfolding first_from
first_here f zero i l h = absurd (not-suc-le-zero l)
first_here f (suc m) i l h = rw (h, first_from)

first_step : (f : ℕ → Bool) (m i : ℕ) → f i ≡ true → first_from f (suc m) i ≡ first_from f m (i + 1)
unfolding first_from
first_step f m i h = rw (h, first_from)

pub first_on : (f : ℕ → Bool) (m i : ℕ) → 0 < m → f i ≡ true → first_from f m i ≡ first_from f (m - 1) (i + 1)
unfolding first_from
first_on f zero i l h = absurd (not-suc-le-zero l)
first_on f (suc m) i l h =
    let e : m ≡ suc m - 1 = omega arith in
    first_step f m i h ∙ ap (λ (x : ℕ). first_from f x (i + 1)) e

pub first_none : (f : ℕ → Bool) (i : ℕ) → first_from f 0 i ≡ none
unfolding first_from
first_none f i = refl

pub first_fault : (f : ℕ → Bool) (n i : ℕ) → i < n → f i ≡ false → first_from f (n - i) i ≡ some i
first_fault f n i l h = first_here f (n - i) i (omega arith) h

pub first_next : (f : ℕ → Bool) (n i : ℕ) → i < n → f i ≡ true → first_from f (n - i) i ≡ first_from f (n - (i + 1)) (i + 1)
first_next f n i l h =
    let e : n - i - 1 ≡ n - (i + 1) = omega arith in
    first_on f (n - i) i (omega arith) h ∙ ap (λ (m : ℕ). first_from f m (i + 1)) e

pub first_end : (f : ℕ → Bool) (n i : ℕ) → n ≤ i → first_from f (n - i) i ≡ none
first_end f n i l = let e : n - i ≡ 0 = omega arith in ap (λ (m : ℕ). first_from f m i) e ∙ first_none f i

-- what the answer from i on says
pub record FirstAt (f : ℕ → Bool) (m i k : ℕ) : Type 0 where
  pub from : i ≤ k
  pub below : k < i + m
  pub refused : f k ≡ false
  pub passed : (j : ℕ) → i ≤ j → j < k → f j ≡ true

at_or_after : (i j : ℕ) → i ≤ j → (i ≡ j) ⊎ (i + 1 ≤ j)
at_or_after i j h = ⊎_elim (λ l. inr (omega arith)) (λ e. inl e) (below_or i j (omega arith))

pub first_at : (f : ℕ → Bool) (m i k : ℕ) → first_from f m i ≡ some k → FirstAt f m i k
unfolding first_from
first_at f zero i k h = absurd (some_not_none (sym h))
first_at f (suc m) i k h = go (f i) refl (first_at f m (i + 1) k)
  where
    go : (b : Bool) → f i ≡ b → (first_from f m (i + 1) ≡ some k → FirstAt f m (i + 1) k) → FirstAt f (suc m) i k
    go true e r =
        let a : FirstAt f m (i + 1) k = r (sym (first_step f m i e) ∙ h) in
        record {
          from = omega arith;
          below = omega arith;
          refused = a.refused;
          passed = λ j l u. ⊎_elim (λ q. ap f (sym q) ∙ e) (λ q. a.passed j q u) (at_or_after i j l);
        }
    go false e r =
        let q : some i ≡ some k = sym (first_here f (suc m) i (omega arith) e) ∙ h in
        let s : i ≡ k = cc in
        record {
          from = omega arith;
          below = omega arith;
          refused = ap f (sym s) ∙ e;
          passed = λ j l u. absurd (omega arith);
        }

pub first_all : (f : ℕ → Bool) (m i : ℕ) → first_from f m i ≡ none → (j : ℕ) → i ≤ j → j < i + m → f j ≡ true
unfolding first_from
first_all f zero i h j l u = absurd (omega arith)
first_all f (suc m) i h j l u = go (f i) refl (first_all f m (i + 1))
  where
    go : (b : Bool) → f i ≡ b → (first_from f m (i + 1) ≡ none → (x : ℕ) → i + 1 ≤ x → x < i + 1 + m → f x ≡ true) → f j ≡ true
    go true e r =
        ⊎_elim (λ q. ap f (sym q) ∙ e)
        (λ q. r (sym (first_step f m i e) ∙ h) j q (omega arith))
        (at_or_after i j l)
    go false e r = absurd (some_not_none (sym (first_here f (suc m) i (omega arith) e) ∙ h))

-- ---- the same from 0 on

pub not_at : (f : ℕ → Bool) (n k : ℕ) → first_not f n ≡ some k → (k < n) × (f k ≡ false) × ((j : ℕ) → j < k → f j ≡ true)
not_at f n k h = let a = first_at f n 0 k h in (omega arith, a.refused, λ j l. a.passed j (omega arith) l)

pub not_none : (f : ℕ → Bool) (n : ℕ) → first_not f n ≡ none → (j : ℕ) → j < n → f j ≡ true
not_none f n h j l = first_all f n 0 h j (omega arith) (omega arith)

pub none_not : (f : ℕ → Bool) (n : ℕ) → ((j : ℕ) → j < n → f j ≡ true) → first_not f n ≡ none
none_not f n h = go (first_not f n) refl
  where
    go : (o : Option ℕ) → first_not f n ≡ o → o ≡ none
    go none e = refl
    go (some k) e = let (l, r, p) = not_at f n k e in absurd (not_both (f k) (h k l) r)

pub not_is : (f : ℕ → Bool) (n k : ℕ) → k < n → f k ≡ false → ((j : ℕ) → j < k → f j ≡ true) → first_not f n ≡ some k
not_is f n k l h p = go (first_not f n) refl
  where
    go : (o : Option ℕ) → first_not f n ≡ o → o ≡ some k
    go none e = absurd (not_both (f k) (not_none f n e k l) h)
    go (some i) e =
        let (u, r, q) = not_at f n i e in
        ap some
        (⊎_elim (λ g. absurd (not_both (f i) (p i g) r))
        (λ g. ⊎_elim (λ z. sym z) (λ z. absurd (not_both (f k) (q k (omega arith)) h)) (at_or_after k i g))
        (lt_or_ge i k))

-- ---- the lowest place: a loop at part p below n asks for `lowest_from bad (n - p) p`

lowest_here : (bad : ℕ → Option ℕ) (m p i : ℕ) → bad p ≡ some i → lowest_from bad (suc m) p ≡ some (record { part = p; item = i })
unfolding lowest_from
lowest_here bad m p i h = rw (h, lowest_from)

lowest_on : (bad : ℕ → Option ℕ) (m p : ℕ) → bad p ≡ none → lowest_from bad (suc m) p ≡ lowest_from bad m (p + 1)
unfolding lowest_from
lowest_on bad m p h = rw (h, lowest_from)

pub lowest_fault : (bad : ℕ → Option ℕ) (n p i : ℕ) → p < n → bad p ≡ some i → lowest_from bad (n - p) p ≡ some (record { part = p; item = i })
lowest_fault bad n p i l h =
    let e : n - p ≡ suc (n - (p + 1)) = omega arith in
    ap (λ (m : ℕ). lowest_from bad m p) e ∙ lowest_here bad _ p i h

pub lowest_next : (bad : ℕ → Option ℕ) (n p : ℕ) → p < n → bad p ≡ none → lowest_from bad (n - p) p ≡ lowest_from bad (n - (p + 1)) (p + 1)
lowest_next bad n p l h =
    let e : n - p ≡ suc (n - (p + 1)) = omega arith in
    ap (λ (m : ℕ). lowest_from bad m p) e ∙ lowest_on bad _ p h

pub lowest_end : (bad : ℕ → Option ℕ) (n p : ℕ) → n ≤ p → lowest_from bad (n - p) p ≡ none
unfolding lowest_from
lowest_end bad n p l = let e : n - p ≡ 0 = omega arith in rw e

-- what the answer from part p on says
pub record LowestAt (bad : ℕ → Option ℕ) (m p : ℕ) (x : Place) : Type 0 where
  pub from : p ≤ x.part
  pub below : x.part < p + m
  pub refused : bad x.part ≡ some x.item
  pub passed : (q : ℕ) → p ≤ q → q < x.part → bad q ≡ none

pub lowest_at : (bad : ℕ → Option ℕ) (m p : ℕ) (x : Place) → lowest_from bad m p ≡ some x → LowestAt bad m p x
unfolding lowest_from
lowest_at bad zero p x h = absurd (some_not_none (sym h))
lowest_at bad (suc m) p x h = go (bad p) refl (lowest_at bad m (p + 1) x)
  where
    go : (o : Option ℕ) → bad p ≡ o → (lowest_from bad m (p + 1) ≡ some x → LowestAt bad m (p + 1) x) → LowestAt bad (suc m) p x
    go none e r =
        let a : LowestAt bad m (p + 1) x = r (sym (lowest_on bad m p e) ∙ h) in
        record {
          from = omega arith;
          below = omega arith;
          refused = a.refused;
          passed = λ q l u. ⊎_elim (λ z. ap bad (sym z) ∙ e) (λ z. a.passed q z u) (at_or_after p q l);
        }
    go (some i) e r =
        let q : some (record { part = p; item = i }) ≡ some x = sym (lowest_here bad m p i e) ∙ h in
        let s : record { part = p; item = i } ≡ x = cc in
        subst (λ (y : Place). LowestAt bad (suc m) p y) s
        (record {
          from = omega arith;
          below = omega arith;
          refused = e;
          passed = λ q l u. absurd (omega arith);
        })

pub lowest_all : (bad : ℕ → Option ℕ) (m p : ℕ) → lowest_from bad m p ≡ none → (q : ℕ) → p ≤ q → q < p + m → bad q ≡ none
unfolding lowest_from
lowest_all bad zero p h q l u = absurd (omega arith)
lowest_all bad (suc m) p h q l u = go (bad p) refl (lowest_all bad m (p + 1))
  where
    go : (o : Option ℕ) → bad p ≡ o → (lowest_from bad m (p + 1) ≡ none → (x : ℕ) → p + 1 ≤ x → x < p + 1 + m → bad x ≡ none) → bad q ≡ none
    go none e r =
        ⊎_elim (λ z. ap bad (sym z) ∙ e) (λ z. r (sym (lowest_on bad m p e) ∙ h) q z (omega arith)) (at_or_after p q l)
    go (some i) e r = absurd (some_not_none (sym (lowest_here bad m p i e) ∙ h))

-- no part has a refused item exactly when there is no lowest place
pub lowest_none : (bad : ℕ → Option ℕ) (n : ℕ) → lowest bad n ≡ none → (p : ℕ) → p < n → bad p ≡ none
lowest_none bad n h p l = lowest_all bad n 0 h p (omega arith) (omega arith)
