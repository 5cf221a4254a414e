-- Probing. A probe is seen as a relation, `Homed` over the pin's homes and `Probed` going round behind them, so that each law goes by its
-- steps: where it ends, what it passed, and what a change of the table leaves of it.
-- Assumes nothing.
use mathlib.Core.Path.{◌≡◌, refl, sym, ◌∙◌}
use mathlib.Core.Bool.{Bool, true, false}
use mathlib.Core.List.{List}
use Prim.Native.Nat.{ℕ, zero, suc, ◌+◌, ◌*◌, ◌/◌, ◌-◌, ◌^◌, ◌≤◌, ◌<◌}
use native.Mathlib.Nat.{mod-lt, zero-lt-suc, not-suc-le-zero, mul-lt-mul_of_pos_right, mul-le-mul_left, le_of_lt}
use native.Mathlib.Numerals.{sub-one}
use native.Mathlib.Omega.{arith}
use lib.Dec.{eqb, leb, ltb}
use borrow.Author.Tests.{leb-true, leb-false, ltb-true, ltb-false, lt-ltb, le-ltb, eqb-true, eqb-false, eq-eqb, ne_eqb}
use Rattle.words.specs.Round.{next}
use Rattle.words.proofs.RoundLaws.{next_wrap, next_step, next_lt}
use Rattle.pinmap.specs.declared.Slot.{Slot}
use Rattle.pinmap.specs.declared.Slot.TheVariants.{Free, Taken, Nowhere}
use Rattle.pinmap.specs.PinMap.{capacity, key_at, scattered, scattered_on, home, homes, probe_from, home_from, slot_of, HasOther}

-- ---- slots

pub scattered_lt : (p : ℕ) → scattered p < 2 ^ 32
scattered_lt p = mod-lt (p * 2654435769) (omega arith)

pub scattered_on_lt : (s : ℕ) → scattered_on s < 2 ^ 32
scattered_on_lt s = mod-lt _ (omega arith)

-- the product of `home_slot` is a word of 64 bits
pub home_fits : (c s : ℕ) → c < 2 ^ 32 → s < 2 ^ 32 → s * c < 2 ^ 64
home_fits c s h l = omega (arith, mul-le-mul_left s (le_of_lt h))

pub home_few : (c s : ℕ) → c < 2 ^ 32 → home c s ≡ s * c / 2 ^ 32
unfolding home
home_few c s h = rw (lt-ltb c (2 ^ 32) h, home)

pub home_many : (c s : ℕ) → 2 ^ 32 ≤ c → home c s ≡ s
unfolding home
home_many c s h = rw (le-ltb c (2 ^ 32) h, home) (omega arith)

pub home_lt : (c s : ℕ) → 0 < c → s < 2 ^ 32 → home c s < c
home_lt c s h l = go (ltb c (2 ^ 32)) refl
  where
    go : (x : Bool) → ltb c (2 ^ 32) ≡ x → home c s < c
    go true e =
        let below : s * c < 2 ^ 32 * c = mul-lt-mul_of_pos_right l h in
        rw (home_few c s (ltb-true c (2 ^ 32) e)) (omega (arith, below))
    go false e = rw (home_many c s (ltb-false c (2 ^ 32) e)) (omega (arith, ltb-false c (2 ^ 32) e))

-- ---- going round, in the code's terms

pub probe_none : (t : List ℕ) (p i : ℕ) → probe_from t p 0 i ≡ Nowhere
unfolding probe_from
probe_none t p i = refl

pub probe_free : (t : List ℕ) (p f i : ℕ) → 0 < f → key_at t i ≡ 0 → probe_from t p f i ≡ Free i
unfolding probe_from
probe_free t p zero i h e = absurd (not-suc-le-zero h)
probe_free t p (suc f) i h e = rw (eq-eqb _ _ e, probe_from)

pub probe_taken : (t : List ℕ) (p f i : ℕ) → 0 < f → key_at t i ≡ p + 1 → probe_from t p f i ≡ Taken i
unfolding probe_from
probe_taken t p zero i h e = absurd (not-suc-le-zero h)
probe_taken t p (suc f) i h e =
    let n : key_at t i ≡ 0 → ⊥ = λ z. omega arith in
    rw (ne_eqb (key_at t i) 0 n, eq-eqb (key_at t i) (p + 1) e, probe_from)

pub probe_on : (t : List ℕ) (p f i : ℕ) → 0 < f → (key_at t i ≡ 0 → ⊥) → (key_at t i ≡ p + 1 → ⊥)
    → probe_from t p f i ≡ probe_from t p (f - 1) (next (capacity t) i)
unfolding probe_from
probe_on t p zero i h n m = absurd (not-suc-le-zero h)
probe_on t p (suc f) i h n m = rw (ne_eqb (key_at t i) 0 n, ne_eqb (key_at t i) (p + 1) m, probe_from, sub-one)

-- ---- the homes, in the code's terms

pub homes_over : (t : List ℕ) (p s : ℕ) → home_from t p 0 s ≡ probe_from t p (capacity t) (home (capacity t) s)
unfolding home_from
homes_over t p s = refl

pub homes_free : (t : List ℕ) (p n s : ℕ) → 0 < n → key_at t (home (capacity t) s) ≡ 0 → home_from t p n s ≡ Free (home (capacity t) s)
unfolding home_from
homes_free t p zero s h e = absurd (not-suc-le-zero h)
homes_free t p (suc n) s h e = rw (eq-eqb _ _ e, home_from)

pub homes_taken : (t : List ℕ) (p n s : ℕ) → 0 < n → key_at t (home (capacity t) s) ≡ p + 1 → home_from t p n s ≡ Taken (home (capacity t) s)
unfolding home_from
homes_taken t p zero s h e = absurd (not-suc-le-zero h)
homes_taken t p (suc n) s h e =
    let k = key_at t (home (capacity t) s) in
    let full : k ≡ 0 → ⊥ = λ z. omega arith in
    rw (ne_eqb k 0 full, eq-eqb k (p + 1) e, home_from)

pub homes_on : (t : List ℕ) (p n s : ℕ) → 0 < n → HasOther t p (home (capacity t) s) → home_from t p n s ≡ home_from t p (n - 1) (scattered_on s)
unfolding home_from
homes_on t p zero s h o = absurd (not-suc-le-zero h)
homes_on t p (suc n) s h (full, other) =
    let k = key_at t (home (capacity t) s) in
    rw (ne_eqb k 0 full, ne_eqb k (p + 1) other, home_from, sub-one)

-- ---- going round, step by step

data Probed (t : List ℕ) (p : ℕ) : ℕ → ℕ → Slot → Type 0 where
  over : {i : ℕ} → Probed t p zero i Nowhere
  free : {f i : ℕ} → key_at t i ≡ 0 → Probed t p (suc f) i (Free i)
  here : {f i : ℕ} → key_at t i ≡ p + 1 → Probed t p (suc f) i (Taken i)
  on : {f i : ℕ} {s : Slot} → (key_at t i ≡ 0 → ⊥) → (key_at t i ≡ p + 1 → ⊥) → Probed t p f (next (capacity t) i) s → Probed t p (suc f) i s

probed_step : (t : List ℕ) (p f i : ℕ) → Probed t p f (next (capacity t) i) (probe_from t p f (next (capacity t) i))
    → Probed t p (suc f) i (probe_from t p (suc f) i)
unfolding probe_from
probed_step t p f i r = go (eqb (key_at t i) 0) refl (eqb (key_at t i) (p + 1)) refl
  where
    go : (a : Bool) → eqb (key_at t i) 0 ≡ a → (b : Bool) → eqb (key_at t i) (p + 1) ≡ b → Probed t p (suc f) i (probe_from t p (suc f) i)
    go true a b e = rw (a, probe_from) (free (eqb-true _ _ a))
    go false a true b = rw (a, b, probe_from) (here (eqb-true _ _ b))
    go false a false b = rw (a, b, probe_from) (on (eqb-false _ _ a) (eqb-false _ _ b) r)

probed : (t : List ℕ) (p f i : ℕ) → Probed t p f i (probe_from t p f i)
unfolding probe_from
probed t p zero i = over
probed t p (suc f) i = probed_step t p f i (probed t p f (next (capacity t) i))

probed_is : {t : List ℕ} {p f i : ℕ} {s : Slot} → Probed t p f i s → probe_from t p f i ≡ s
probed_is over = probe_none _ _ _
probed_is (free e) = probe_free _ _ _ _ (zero-lt-suc _) e
probed_is (here e) = probe_taken _ _ _ _ (zero-lt-suc _) e
probed_is (on n m r) = probe_on _ _ _ _ (zero-lt-suc _) n m ∙ rw sub-one (probed_is r)

-- slot k can be reached from slot i in less than f steps
abbrev Reach : ℕ → ℕ → ℕ → ℕ → Type 0
Reach c i k f = (i ≤ k → k < i + f) × (k < i → k + c < i + f)

reach_none : (c i k : ℕ) → i < c → Reach c i k 0 → ⊥
reach_none c i k h (a, b) = go (leb i k) refl
  where
    go : (x : Bool) → leb i k ≡ x → ⊥
    go true e = omega (arith, a (leb-true i k e), leb-true i k e)
    go false e = omega (arith, b (leb-false i k e), leb-false i k e, h)

reach_on : (c i k f : ℕ) → i < c → k < c → (k ≡ i → ⊥) → Reach c i k (suc f) → Reach c (next c i) k f
reach_on c i k f hi hk n (a, b) = go (eqb (i + 1) c) refl
  where
    go : (x : Bool) → eqb (i + 1) c ≡ x → Reach c (next c i) k f
    go true e =
        let w : i + 1 ≡ c = eqb-true (i + 1) c e in
        let l : k < i = omega arith in
        rw (next_wrap c i w) (λ g. omega (arith, b l), λ g. absurd (not-suc-le-zero g))
    go false e = rw (next_step c i (eqb-false (i + 1) c e)) (λ g. omega (arith, a (omega arith)), λ g. omega (arith, b (omega arith)))

-- where it ends, with what stands there
module _ (t : List ℕ) (p : ℕ) where
  free_in : {f i k : ℕ} → Probed t p f i (Free k) → i < capacity t → (k < capacity t) × (key_at t k ≡ 0)
  free_in (free e) h = (h, e)
  free_in (on n m r) h = free_in r (next_lt _ _ h)

  taken_in : {f i k : ℕ} → Probed t p f i (Taken k) → i < capacity t → (k < capacity t) × (key_at t k ≡ p + 1)
  taken_in (here e) h = (h, e)
  taken_in (on n m r) h = taken_in r (next_lt _ _ h)

  -- where it ends nowhere, each slot that it could reach is taken by another pin
  passed : (k : ℕ) {f i : ℕ} → Probed t p f i Nowhere → i < capacity t → k < capacity t → Reach (capacity t) i k f → HasOther t p k
  passed k {i = i} over hi hk r = absurd (reach_none (capacity t) i k hi r)
  passed k {i = i} (on {f = f} n m s) hi hk r =
      go (eqb k i) refl (λ (g : Reach (capacity t) (next (capacity t) i) k f). passed k s (next_lt _ _ hi) hk g)
    where
      go : (x : Bool) → eqb k i ≡ x → (Reach (capacity t) (next (capacity t) i) k f → HasOther t p k) → HasOther t p k
      go true e ih = rw (eqb-true k i e) (n, m)
      go false e ih = ih (reach_on (capacity t) i k f hi hk (eqb-false k i e) r)

-- ---- the homes, step by step

data Homed (t : List ℕ) (p : ℕ) : ℕ → ℕ → Slot → Type 0 where
  round : {s : ℕ} {r : Slot} → Probed t p (capacity t) (home (capacity t) s) r → Homed t p zero s r
  free : {n s i : ℕ} → i ≡ home (capacity t) s → key_at t i ≡ 0 → Homed t p (suc n) s (Free i)
  here : {n s i : ℕ} → i ≡ home (capacity t) s → key_at t i ≡ p + 1 → Homed t p (suc n) s (Taken i)
  on : {n s : ℕ} {r : Slot} → HasOther t p (home (capacity t) s) → Homed t p n (scattered_on s) r → Homed t p (suc n) s r

homed_step : (t : List ℕ) (p n s : ℕ) → Homed t p n (scattered_on s) (home_from t p n (scattered_on s)) → Homed t p (suc n) s (home_from t p (suc n) s)
unfolding home_from
homed_step t p n s r = go (eqb (key_at t (home (capacity t) s)) 0) refl (eqb (key_at t (home (capacity t) s)) (p + 1)) refl
  where
    go : (a : Bool) → eqb (key_at t (home (capacity t) s)) 0 ≡ a → (b : Bool) → eqb (key_at t (home (capacity t) s)) (p + 1) ≡ b → Homed t p (suc n) s (home_from t p (suc n) s)
    go true a b e = rw (a, home_from) (free refl (eqb-true _ _ a))
    go false a true b = rw (a, b, home_from) (here refl (eqb-true _ _ b))
    go false a false b = rw (a, b, home_from) (on (eqb-false _ _ a, eqb-false _ _ b) r)

homed : (t : List ℕ) (p n s : ℕ) → Homed t p n s (home_from t p n s)
unfolding home_from
homed t p zero s = round (probed t p (capacity t) (home (capacity t) s))
homed t p (suc n) s = homed_step t p n s (homed t p n (scattered_on s))

homed_is : {t : List ℕ} {p n s : ℕ} {r : Slot} → Homed t p n s r → home_from t p n s ≡ r
homed_is (round h) = homes_over _ _ _ ∙ probed_is h
homed_is (free e z) = rw e (homes_free _ _ _ _ (zero-lt-suc _) (rw e at z))
homed_is (here e z) = rw e (homes_taken _ _ _ _ (zero-lt-suc _) (rw e at z))
homed_is (on o r) = homes_on _ _ _ _ (zero-lt-suc _) o ∙ rw sub-one (homed_is r)

module _ (t : List ℕ) (p : ℕ) (some_slots : 0 < capacity t) where
  homed-free : {n s k : ℕ} → Homed t p n s (Free k) → s < 2 ^ 32 → (k < capacity t) × (key_at t k ≡ 0)
  homed-free {s = s} (round h) l = free_in t p h (home_lt _ s some_slots l)
  homed-free {s = s} (free e z) l = (rw e (home_lt _ s some_slots l), z)
  homed-free {s = s} (on o r) l = homed-free r (scattered_on_lt s)

  homed-taken : {n s k : ℕ} → Homed t p n s (Taken k) → s < 2 ^ 32 → (k < capacity t) × (key_at t k ≡ p + 1)
  homed-taken {s = s} (round h) l = taken_in t p h (home_lt _ s some_slots l)
  homed-taken {s = s} (here e z) l = (rw e (home_lt _ s some_slots l), z)
  homed-taken {s = s} (on o r) l = homed-taken r (scattered_on_lt s)

  homed-nowhere : {n s : ℕ} (k : ℕ) → k < capacity t → Homed t p n s Nowhere → s < 2 ^ 32 → HasOther t p k
  homed-nowhere {s = s} k h (round r) l = passed t p k r (home_lt _ s some_slots l) h (λ g. omega arith, λ g. omega arith)
  homed-nowhere {s = s} k h (on o r) l = homed-nowhere k h r (scattered_on_lt s)

-- ---- the slot of a pin

pub slot_none : (t : List ℕ) (p : ℕ) → capacity t ≡ 0 → slot_of t p ≡ Nowhere
unfolding slot_of
slot_none t p e = rw (eq-eqb (capacity t) 0 e, slot_of)

pub slot_start : (t : List ℕ) (p : ℕ) → 0 < capacity t → slot_of t p ≡ home_from t p homes (scattered p)
unfolding slot_of
slot_start t p h = rw (ne_eqb (capacity t) 0 (λ (z : capacity t ≡ 0). omega arith), slot_of)

slot_homed : (t : List ℕ) (p : ℕ) (r : Slot) → 0 < capacity t → slot_of t p ≡ r → Homed t p homes (scattered p) r
slot_homed t p r h e = rw (sym (slot_start t p h) ∙ e) at (homed t p homes (scattered p))

-- a slot stands where there are slots
some_slots : (t : List ℕ) (p : ℕ) → (slot_of t p ≡ Nowhere → ⊥) → 0 < capacity t
some_slots t p n = go (eqb (capacity t) 0) refl
  where
    go : (x : Bool) → eqb (capacity t) 0 ≡ x → 0 < capacity t
    go true e = absurd (n (slot_none t p (eqb-true (capacity t) 0 e)))
    go false e = omega (arith, eqb-false (capacity t) 0 e)

free_some : (t : List ℕ) (p i : ℕ) → slot_of t p ≡ Free i → 0 < capacity t
free_some t p i e = some_slots t p (λ (n : slot_of t p ≡ Nowhere). let z : ◌≡◌ {A = ℕ} 0 1 = cc in omega arith)

taken_some : (t : List ℕ) (p i : ℕ) → slot_of t p ≡ Taken i → 0 < capacity t
taken_some t p i e = some_slots t p (λ (n : slot_of t p ≡ Nowhere). let z : ◌≡◌ {A = ℕ} 0 1 = cc in omega arith)

pub slot_free : (t : List ℕ) (p i : ℕ) → slot_of t p ≡ Free i → (i < capacity t) × (key_at t i ≡ 0)
slot_free t p i e = let h = free_some t p i e in homed-free t p h (slot_homed t p (Free i) h e) (scattered_lt p)

pub slot_taken : (t : List ℕ) (p i : ℕ) → slot_of t p ≡ Taken i → (i < capacity t) × (key_at t i ≡ p + 1)
slot_taken t p i e = let h = taken_some t p i e in homed-taken t p h (slot_homed t p (Taken i) h e) (scattered_lt p)

-- ---- where the keys that are there stay: a pin that has a slot keeps it, and a pin gets the free slot that it was given
module _ (t u : List ℕ) (size : capacity u ≡ capacity t) (kept : (j : ℕ) → (key_at t j ≡ 0 → ⊥) → key_at u j ≡ key_at t j) where
  other-kept : (q j : ℕ) → HasOther t q j → HasOther u q j
  other-kept q j (n, m) = (λ z. n (sym (kept j n) ∙ z), λ z. m (sym (kept j n) ∙ z))

  key-kept : (q j : ℕ) → key_at t j ≡ q + 1 → key_at u j ≡ q + 1
  key-kept q j e = kept j (λ (z : key_at t j ≡ 0). omega (arith, e, z)) ∙ e

  keep_taken : (q : ℕ) {f i k : ℕ} → Probed t q f i (Taken k) → Probed u q f i (Taken k)
  keep_taken q {i = i} (here e) = here (key-kept q i e)
  keep_taken q {i = i} {k = k} (on {f = f} n m r) =
      let (a, b) = other-kept q i (n, m) in
      on {f = f} {s = Taken k} a b (rw size (keep_taken q r))

  take-free : (p : ℕ) {f i k : ℕ} → key_at u k ≡ p + 1 → Probed t p f i (Free k) → Probed u p f i (Taken k)
  take-free p e (free z) = here e
  take-free p {i = i} {k = k} e (on {f = f} n m r) =
      let (a, b) = other-kept p i (n, m) in
      on {f = f} {s = Taken k} a b (rw size (take-free p e r))

  keep-home : (q : ℕ) {n s k : ℕ} → Homed t q n s (Taken k) → Homed u q n s (Taken k)
  keep-home q {s = s} {k = k} (round h) = round {s = s} {r = Taken k} (rw size (keep_taken q h))
  keep-home q {s = s} {k = k} (here {n = n} e z) = here {n = n} {s = s} {i = k} (rw size e) (key-kept q k z)
  keep-home q {s = s} {k = k} (on {n = n} o r) = on {n = n} {s = s} {r = Taken k} (rw size (other-kept q _ o)) (keep-home q r)

  take-home : (p : ℕ) {n s k : ℕ} → key_at u k ≡ p + 1 → Homed t p n s (Free k) → Homed u p n s (Taken k)
  take-home p {s = s} {k = k} e (round h) = round {s = s} {r = Taken k} (rw size (take-free p e h))
  take-home p {s = s} {k = k} e (free {n = n} at z) = here {n = n} {s = s} {i = k} (rw size at) e
  take-home p {s = s} {k = k} e (on {n = n} o r) = on {n = n} {s = s} {r = Taken k} (rw size (other-kept p _ o)) (take-home p e r)

  slot_again : (q k : ℕ) → 0 < capacity t → Homed u q homes (scattered q) (Taken k) → slot_of u q ≡ Taken k
  slot_again q k h r = slot_start u q (rw size h) ∙ homed_is r

  pub slot_kept : (q k : ℕ) → slot_of t q ≡ Taken k → slot_of u q ≡ Taken k
  slot_kept q k e = let h = taken_some t q k e in slot_again q k h (keep-home q (slot_homed t q (Taken k) h e))

  pub slot_given : (p k : ℕ) → key_at u k ≡ p + 1 → slot_of t p ≡ Free k → slot_of u p ≡ Taken k
  slot_given p k g e = let h = free_some t p k e in slot_again p k h (take-home p g (slot_homed t p (Free k) h e))

-- ---- a pin is nowhere only where every slot is taken by another

pub slot_nowhere : (t : List ℕ) (p : ℕ) → slot_of t p ≡ Nowhere → (k : ℕ) → k < capacity t → HasOther t p k
slot_nowhere t p e k h =
    let some : 0 < capacity t = omega arith in
    homed-nowhere t p some k h (slot_homed t p Nowhere some e) (scattered_lt p)
