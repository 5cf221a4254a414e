-- From what the callees ensure to what each function ensures, over plain variables.
-- Assumes nothing.
use mathlib.Core.Path.{◌≡◌, refl, sym, ◌∙◌}
use mathlib.Core.List.{List}
use Prim.Native.Nat.{ℕ, ◌+◌, ◌-◌, ◌<◌}
use native.Mathlib.Omega.{arith}
use Rattle.pinmap.specs.declared.Slot.{Slot}
use Rattle.pinmap.specs.declared.Slot.TheVariants.{Free, Taken, Nowhere}
use Rattle.words.specs.Round.{next}
use Rattle.pinmap.specs.PinMap.{capacity, key_at, scattered, scattered_on, home, homes, probe_from, home_from, slot_of}
use Rattle.pinmap.proofs.ProbeLaws.{probe_none, probe_free, probe_taken, probe_on, homes_over, homes_free, homes_taken, homes_on, slot_start, slot_free, slot_taken}

-- the loop of `go_round`: what is left of it ends where the whole one does, for the pin of the key
abbrev pub Rounding : List ℕ → ℕ → ℕ → ℕ → ℕ → Type 0
Rounding t key from left i = (p : ℕ) → key ≡ p + 1 → probe_from t p left i ≡ probe_from t p (capacity t) from

pub rounding_start : (t : List ℕ) (key from left : ℕ) → left ≡ capacity t → Rounding t key from left from
rounding_start t key from left z p e = rw z

module _ (t : List ℕ) (from left i found : ℕ) (some_left : 0 < left) (read : found ≡ key_at t i) where
  pub rounding_free : (p : ℕ) → found ≡ 0 → Rounding t (p + 1) from left i → Free i ≡ probe_from t p (capacity t) from
  rounding_free p z g = sym (probe_free t p left i some_left (sym read ∙ z)) ∙ g p refl

  pub rounding_taken : (p : ℕ) → found ≡ p + 1 → Rounding t (p + 1) from left i → Taken i ≡ probe_from t p (capacity t) from
  rounding_taken p k g = sym (probe_taken t p left i some_left (sym read ∙ k)) ∙ g p refl

  pub rounding_on : (key rest : ℕ) → rest ≡ left - 1 → (found ≡ 0 → ⊥) → (found ≡ key → ⊥) → Rounding t key from left i → Rounding t key from rest (next (capacity t) i)
  rounding_on key rest z n m g p e = rw z (sym (probe_on t p left i some_left (λ z. n (read ∙ z)) (λ z. m (read ∙ (z ∙ sym e)))) ∙ g p e)

pub rounding_over : (t : List ℕ) (p from left i : ℕ) → left ≡ 0 → Rounding t (p + 1) from left i → Nowhere ≡ probe_from t p (capacity t) from
rounding_over t p from left i z g = sym (probe_none t p i) ∙ (rw z at (g p refl))

-- the loop of `probe`: what is left of the homes, from scattered number s on, ends where the whole probe does
abbrev pub Homing : List ℕ → ℕ → ℕ → ℕ → Type 0
Homing t key left s = (p : ℕ) → key ≡ p + 1 → home_from t p left s ≡ slot_of t p

pub homing_start : (t : List ℕ) (p s left : ℕ) → left ≡ homes → 0 < capacity t → s ≡ scattered p → Homing t (p + 1) left s
homing_start t p s left z h e q k = let same : p ≡ q = omega arith in rw (z, e, same) (sym (slot_start t q h))

module _ (t : List ℕ) (left s i found : ℕ) (some_left : 0 < left) (at : i ≡ home (capacity t) s) (read : found ≡ key_at t i) where
  seen : found ≡ key_at t (home (capacity t) s)
  seen = rw at at read

  pub homing_free : (p : ℕ) → found ≡ 0 → Homing t (p + 1) left s → Free i ≡ slot_of t p
  homing_free p z g = rw at (sym (homes_free t p left s some_left (sym seen ∙ z)) ∙ g p refl)

  pub homing_taken : (p : ℕ) → found ≡ p + 1 → Homing t (p + 1) left s → Taken i ≡ slot_of t p
  homing_taken p k g = rw at (sym (homes_taken t p left s some_left (sym seen ∙ k)) ∙ g p refl)

  pub homing_on : (key rest : ℕ) → rest ≡ left - 1 → (found ≡ 0 → ⊥) → (found ≡ key → ⊥) → Homing t key left s → Homing t key rest (scattered_on s)
  homing_on key rest z n m g p e = rw z (sym (homes_on t p left s some_left (λ z. n (seen ∙ z), λ z. m (seen ∙ (z ∙ sym e)))) ∙ g p e)

pub homing_over : (t : List ℕ) (p left s i : ℕ) (r : Slot) → left ≡ 0 → i ≡ home (capacity t) s → r ≡ probe_from t p (capacity t) i → Homing t (p + 1) left s → r ≡ slot_of t p
homing_over t p left s i r z at e g = e ∙ (rw at (sym (homes_over t p s) ∙ (rw z at (g p refl))))

-- where a probe ends is a slot
module _ (t : List ℕ) (p : ℕ) (s : Slot) (i : ℕ) (told : s ≡ slot_of t p) where
  pub free_inside : s ≡ Free i → i < capacity t
  free_inside e = (slot_free t p i (sym told ∙ e)).0

  pub taken_inside : s ≡ Taken i → i < capacity t
  taken_inside e = (slot_taken t p i (sym told ∙ e)).0
