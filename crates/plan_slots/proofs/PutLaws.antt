-- What is found in a table filled with a stage's positions or with the pins that a part reads: by induction over the slots, the last one decided.
-- Assumes nothing.
use mathlib.Core.Path.{◌≡◌, refl, sym, ap, ap₂, ◌∙◌, subst}
use mathlib.Core.Bool.{Bool, true, false, ◌||◌, or-true, or-false, and-false}
use mathlib.Core.List.{List, [], ◌∷◌, ◌++◌, append-nil}
use mathlib.Core.Logic.{⊎_elim}
use mathlib.Core.Option.{none, some}
use Prim.Native.Nat.{ℕ, zero, suc, ◌+◌, ◌-◌, ◌/◌, ◌≤◌, ◌<◌}
use native.Mathlib.Omega.{arith}
use native.Mathlib.Numerals.{add-one}
use borrow.Author.Tests.{lt-ltb, eq-eqb, ne_eqb, eqb-true, eqb-false}
use lib.Dec.{eqb, ltb}
use lib.ListN.{length, replicate, length-append, length-replicate}
use Rattle.words.proofs.BitLaws.{lt_or_ge}
use Rattle.pinmap.specs.PinMap.{Entry, entry, look, put_in, last_from, last_put, after_puts, Holds}
use Rattle.pinmap.proofs.HoldsLaws.{last_snoc, holds_none, holds_puts}
use Rattle.pinmap.proofs.PinMapLaws.{put_length, replaced_same, replaced_other}
use Rattle.plan_record.specs.Record.{slots_of, slot_at, level_at}
use Rattle.plan_record.proofs.RecordLaws.{lanes_range, one_more}
use Rattle.words.specs.Pins.{empty}
use Rattle.words.specs.Tests.{some_below}
use Rattle.plan_slots.specs.Slots.{stands_in, reads_pin, highest_below, highest}
use Rattle.plan_slots.specs.Puts.{held_at, held_below, position_puts, read_puts, filled, FilledWith, found_if, found_at}

-- ---- puts one after the other

pub puts_after : (t : List ℕ) (es fs : List Entry) → after_puts t (es ++ fs) ≡ after_puts (after_puts t es) fs
unfolding after_puts
puts_after t [] fs = refl
puts_after t (e ∷ es) fs = puts_after (put_in t e.pin e.value) es fs

pub puts_length : (t : List ℕ) (es : List Entry) → length (after_puts t es) ≡ length t
unfolding after_puts
puts_length t [] = refl
puts_length t (e ∷ es) = puts_length (put_in t e.pin e.value) es ∙ put_length t e.pin e.value

pub filled_length : (n : ℕ) (es : List Entry) → length (filled n es) ≡ n
filled_length n es = puts_length (replicate n 0) es ∙ length-replicate n 0

-- one slot more
pub held_none : (t : List ℕ) (x v : ℕ) → x ≡ empty → t ≡ after_puts t (held_at x v)
unfolding held_at after_puts
held_none t x v h = rw (eq-eqb _ _ h, after_puts)

pub held_one : (t : List ℕ) (x v : ℕ) → (x ≡ empty → ⊥) → put_in t x v ≡ after_puts t (held_at x v)
unfolding held_at after_puts
held_one t x v h = rw (ne_eqb _ _ h, after_puts)

module _ (pin value : ℕ → ℕ) where
  pub held_more : (t : List ℕ) (n : ℕ) → after_puts (after_puts t (held_below pin value n)) (held_at (pin n) (value n)) ≡ after_puts t (held_below pin value (n + 1))
  unfolding held_below
  held_more t n = rw add-one (sym (puts_after t (held_below pin value n) (held_at (pin n) (value n))))

  -- a table that is filled slot by slot: at the start, one slot on
  pub fill_start : (t : List ℕ) (n : ℕ) → t ≡ replicate n 0 → t ≡ filled (length t) (held_below pin value 0)
  unfolding held_below after_puts
  fill_start t n h = h ∙ ap (λ (m : ℕ). replicate m 0) (sym (ap length h ∙ length-replicate n 0))

  pub fill_more : (t u : List ℕ) (i : ℕ) → t ≡ filled (length t) (held_below pin value i) → u ≡ after_puts t (held_at (pin i) (value i))
      → (length u ≡ length t) × (u ≡ filled (length u) (held_below pin value (i + 1)))
  fill_more t u i h e =
      let n : length u ≡ length t = ap length e ∙ puts_length t (held_at (pin i) (value i)) in
      let f : after_puts t (held_at (pin i) (value i)) ≡ filled (length t) (held_below pin value (i + 1)) =
      ap (λ (l : List ℕ). after_puts l (held_at (pin i) (value i))) h ∙ held_more (replicate (length t) 0) i
      in
      (n, e ∙ (f ∙ ap (λ (m : ℕ). filled m (held_below pin value (i + 1))) (sym n)))

  pub fill_end : (t₀ t : List ℕ) (n m i : ℕ) → t₀ ≡ replicate n 0 → length t ≡ length t₀ → t ≡ filled (length t) (held_below pin value i) → i ≡ m
      → t ≡ filled n (held_below pin value m)
  fill_end t₀ t n m i h l e q =
      e ∙ ap₂ (λ (a : ℕ) (b : ℕ). filled a (held_below pin value b)) (l ∙ (ap length h ∙ length-replicate n 0)) q

  held-at-length : (x v : ℕ) → length (held_at x v) ≤ 1
  unfolding held_at
  held-at-length x v = go (eqb x empty)
    where
      go : (b : Bool) → length {A = Entry} (elim b [ true ↦ [] | false ↦ entry x v ∷ [] ]) ≤ 1
      go true = omega arith
      go false = omega arith

  pub held_length : (n : ℕ) → length (held_below pin value n) ≤ n
  unfolding held_below
  held_length zero = omega arith
  held_length (suc n) = rw length-append (omega (arith, held_length n, held-at-length (pin n) (value n)))

  -- ---- the last entry of a pin

  held_same : (n x : ℕ) → (x ≡ empty → ⊥) → pin n ≡ x → last_put (held_below pin value (suc n)) x ≡ some (value n)
  unfolding held_below held_at
  held_same n x k e =
      let q : eqb (pin n) empty ≡ false = ne_eqb _ _ (λ z. k (sym e ∙ z)) in
      ap (λ (b : Bool). last_put (held_below pin value n ++ elim b [ true ↦ [] | false ↦ entry (pin n) (value n) ∷ [] ]) x) q
      ∙ (last_snoc none (held_below pin value n) (entry (pin n) (value n)) x ∙ replaced_same (entry (pin n) (value n)) x _ (sym e))

  held-other : (n x : ℕ) → (pin n ≡ x → ⊥) → last_put (held_below pin value (suc n)) x ≡ last_put (held_below pin value n) x
  unfolding held_below held_at
  held-other n x k = go (eqb (pin n) empty)
    where
      go : (b : Bool) → last_put (held_below pin value n ++ elim b [ true ↦ [] | false ↦ entry (pin n) (value n) ∷ [] ]) x ≡ last_put (held_below pin value n) x
      go true = rw append-nil
      go false = last_snoc none (held_below pin value n) (entry (pin n) (value n)) x ∙ replaced_other (entry (pin n) (value n)) x _ (λ z. k (sym z))

-- a table with a slot for each entry holds them
pub filled_holds : (n : ℕ) (puts : List Entry) → length puts ≤ n / 2 → Holds (filled n puts) puts
filled_holds n puts l = holds_puts (replicate n 0) [] puts (holds_none n) (rw length-replicate (omega arith))

pub positions_hold : (d : List ℕ) (p s n : ℕ) → 16384 ≤ n → Holds (filled n (position_puts d p s)) (position_puts d p s)
unfolding position_puts
positions_hold d p s n h =
    let l : length (position_puts d p s) ≤ slots_of d - 1 = held_length _ _ (slots_of d - 1) in
    filled_holds n (position_puts d p s) (omega (arith, lanes_range d))

pub reads_hold : (d : List ℕ) (p n : ℕ) → 16384 ≤ n → Holds (filled n (read_puts d p)) (read_puts d p)
unfolding read_puts
reads_hold d p n h = filled_holds n (read_puts d p) (omega (arith, held_length (level_at d p 0) (λ j. 0) (slots_of d), lanes_range d))

-- ---- the pins that a part reads: found just where some slot has them

last_of_none : (pin value : ℕ → ℕ) (x : ℕ) → last_put (held_below pin value 0) x ≡ none
unfolding held_below last_from
last_of_none pin value x = refl

pub last_put_found : (pin : ℕ → ℕ) (v n x : ℕ) → (x ≡ empty → ⊥) → last_put (held_below pin (λ i. v) n) x ≡ found_if (some_below (λ i. eqb (pin i) x) n) v
unfolding some_below
last_put_found pin v zero x k = last_of_none pin (λ i. v) x
last_put_found pin v (suc n) x k = go (eqb (pin n) x) refl (last_put_found pin v n x k)
  where
    go : (b : Bool) → eqb (pin n) x ≡ b → last_put (held_below pin (λ i. v) n) x ≡ found_if (some_below (λ i. eqb (pin i) x) n) v
        → last_put (held_below pin (λ i. v) (suc n)) x ≡ found_if (some_below (λ i. eqb (pin i) x) n || eqb (pin n) x) v
    go true e r = rw (e, or-true (some_below (λ i. eqb (pin i) x) n)) (held_same pin (λ i. v) n x k (eqb-true _ _ e))
    go false e r = rw (e, or-false (some_below (λ i. eqb (pin i) x) n)) (held-other pin (λ i. v) n x (eqb-false _ _ e) ∙ r)

-- ---- the highest position of a pin

module _ (d : List ℕ) (p s x : ℕ) where
  pub highest_here : (q : ℕ) → 0 < q → slot_at d p s q ≡ x → highest_below d p s x (suc q) ≡ q
  unfolding highest_below
  highest_here q h e = rw (lt-ltb 0 q h, eq-eqb _ _ e, highest_below)

  pub highest_on : (q : ℕ) → (slot_at d p s q ≡ x → ⊥) → highest_below d p s x (suc q) ≡ highest_below d p s x q
  unfolding highest_below
  highest_on q h = rw (ne_eqb _ _ h, and-false (ltb 0 q), highest_below)

  pub highest_first : highest_below d p s x 1 ≡ 0
  unfolding highest_below
  highest_first = refl

  -- it stands somewhere just where its highest position is not 0
  stands-below : (n : ℕ) → some_below (λ i. eqb (slot_at d p s (i + 1)) x) n ≡ ltb 0 (highest_below d p s x (suc n))
  unfolding some_below
  stands-below zero = sym (ap (ltb 0) highest_first)
  stands-below (suc n) = go (eqb (slot_at d p s (n + 1)) x) refl (stands-below n)
    where
      go : (b : Bool) → eqb (slot_at d p s (n + 1)) x ≡ b → some_below (λ i. eqb (slot_at d p s (i + 1)) x) n ≡ ltb 0 (highest_below d p s x (suc n))
          → (some_below (λ i. eqb (slot_at d p s (i + 1)) x) n || eqb (slot_at d p s (n + 1)) x) ≡ ltb 0 (highest_below d p s x (suc (suc n)))
      go true e r =
          let h : slot_at d p s (suc n) ≡ x = ap (slot_at d p s) (sym (add-one n)) ∙ eqb-true _ _ e in
          rw (e, or-true (some_below (λ i. eqb (slot_at d p s (i + 1)) x) n)) (sym (ap (ltb 0) (highest_here (suc n) (omega arith) h) ∙ lt-ltb 0 (suc n) (omega arith)))
      go false e r =
          rw (e, or-false (some_below (λ i. eqb (slot_at d p s (i + 1)) x) n)) (r ∙ sym (ap (ltb 0) (highest_on (suc n) (λ h. eqb-false _ _ e (ap (slot_at d p s) (add-one n) ∙ h)))))

  pub stands_highest : stands_in d p s x ≡ ltb 0 (highest d p s x)
  unfolding stands_in
  stands_highest = stands-below (slots_of d - 1) ∙ ap (λ (m : ℕ). ltb 0 (highest_below d p s x m)) (one_more d)

  -- the highest position below n + 1 that has it, where there is one
  pub record HighestAt (n q : ℕ) : Type 0 where
    pub below : q ≤ n
    pub there : 0 < q → slot_at d p s q ≡ x
    pub last : (i : ℕ) → q < i → i ≤ n → slot_at d p s i ≡ x → ⊥

  highest-below : (n : ℕ) → HighestAt n (highest_below d p s x (suc n))
  highest-below zero = rw highest_first (record { below = omega arith; there = λ h. absurd (omega arith); last = λ i h l e. omega arith })
  highest-below (suc n) = go (eqb (slot_at d p s (suc n)) x) refl (highest-below n)
    where
      go : (b : Bool) → eqb (slot_at d p s (suc n)) x ≡ b → HighestAt n (highest_below d p s x (suc n)) → HighestAt (suc n) (highest_below d p s x (suc (suc n)))
      go true e r =
          rw (highest_here (suc n) (omega arith) (eqb-true _ _ e))
          (record { below = omega arith; there = λ h. eqb-true _ _ e; last = λ i h l k. omega arith })
      go false e r =
          rw (highest_on (suc n) (eqb-false _ _ e))
          (record {
            below = omega (arith, r.below);
            there = r.there;
            last = λ i h l k. ⊎_elim (λ u. r.last i h (omega arith) k) (λ u. let z : i ≡ suc n = omega arith in eqb-false _ _ e (sym (ap (slot_at d p s) z) ∙ k)) (lt_or_ge i (suc n));
          })

  pub highest_is : HighestAt (slots_of d - 1) (highest d p s x)
  highest_is = subst (λ (m : ℕ). HighestAt (slots_of d - 1) (highest_below d p s x m)) (one_more d) (highest-below (slots_of d - 1))

  -- ---- in a table of positions it is found there

  found-highest : (x ≡ empty → ⊥) → (n : ℕ) → last_put (held_below (λ i. slot_at d p s (i + 1)) (λ i. i + 1) n) x ≡ found_at (highest_below d p s x (suc n))
  found-highest k zero = last_of_none (λ i. slot_at d p s (i + 1)) (λ i. i + 1) x ∙ sym (ap found_at highest_first)
  found-highest k (suc n) = go (eqb (slot_at d p s (n + 1)) x) refl (found-highest k n)
    where
      go : (b : Bool) → eqb (slot_at d p s (n + 1)) x ≡ b
          → last_put (held_below (λ i. slot_at d p s (i + 1)) (λ i. i + 1) n) x ≡ found_at (highest_below d p s x (suc n))
          → last_put (held_below (λ i. slot_at d p s (i + 1)) (λ i. i + 1) (suc n)) x ≡ found_at (highest_below d p s x (suc (suc n)))
      go true e r =
          let h : slot_at d p s (suc n) ≡ x = ap (slot_at d p s) (sym (add-one n)) ∙ eqb-true _ _ e in
          held_same (λ i. slot_at d p s (i + 1)) (λ i. i + 1) n x k (eqb-true _ _ e)
          ∙ (ap some (add-one n) ∙ sym (ap found_at (highest_here (suc n) (omega arith) h)))
      go false e r =
          held-other (λ i. slot_at d p s (i + 1)) (λ i. i + 1) n x (eqb-false _ _ e)
          ∙ (r ∙ sym (ap found_at (highest_on (suc n) (λ h. eqb-false _ _ e (ap (slot_at d p s) (add-one n) ∙ h)))))

  pub positions_look : (m : ℕ) → 16384 ≤ m → (x ≡ empty → ⊥) → look (filled m (position_puts d p s)) x ≡ found_at (highest d p s x)
  unfolding position_puts
  positions_look m h k = (positions_hold d p s m h).finds x ∙ (found-highest k (slots_of d - 1) ∙ ap (λ (m : ℕ). found_at (highest_below d p s x m)) (one_more d))

-- ---- in a table of the pins read: found just where the part reads it

pub reads_look : (d : List ℕ) (p x m : ℕ) → 16384 ≤ m → (x ≡ empty → ⊥) → look (filled m (read_puts d p)) x ≡ found_if (reads_pin d p x) 0
unfolding read_puts reads_pin
reads_look d p x m h k = (reads_hold d p m h).finds x ∙ last_put_found (level_at d p 0) 0 (slots_of d) x k

-- ---- the same of a lent table

pub positions_found : (d t : List ℕ) (p s x : ℕ) → FilledWith (position_puts d p s) t → (x ≡ empty → ⊥) → look t x ≡ found_at (highest d p s x)
positions_found d t p s x f k = ap (λ (l : List ℕ). look l x) f.is ∙ positions_look d p s x (length t) (omega (arith, f.wide)) k

pub reads_found : (d t : List ℕ) (p x : ℕ) → FilledWith (read_puts d p) t → (x ≡ empty → ⊥) → look t x ≡ found_if (reads_pin d p x) 0
reads_found d t p x f k = ap (λ (l : List ℕ). look l x) f.is ∙ reads_look d p x (length t) (omega (arith, f.wide)) k

pub filled_with : (t u : List ℕ) (puts : List Entry) → 32768 ≤ length t → u ≡ filled (length t) puts → FilledWith puts u
filled_with t u puts h e =
    let n : length u ≡ length t = ap length e ∙ filled_length (length t) puts in
    record { wide = omega arith; is = e ∙ ap (λ (m : ℕ). filled m puts) (sym n) }
