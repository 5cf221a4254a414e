-- The tests of refusals 9, 10 and 11 in the code's terms: one law for each way out.
-- Assumes nothing.
use mathlib.Core.Path.{◌≡◌, refl, sym, ap, ap₂, ◌∙◌}
use mathlib.Core.Bool.{Bool, true, false, not, ◌&&◌, ◌||◌, and-true}
use mathlib.Core.List.{List}
use mathlib.Core.Option.{Option}
use Prim.Native.Nat.{ℕ, zero, suc, ◌+◌, ◌*◌, ◌/◌, ◌^◌, ◌≤◌, ◌<◌}
use native.Mathlib.Omega.{arith}
use borrow.Author.Tests.{lt-ltb, le-leb, lt-leb, eq-eqb, ne_eqb}
use lib.Dec.{leb, ltb, eqb}
use Rattle.pinmap.specs.PinMap.{look}
use Rattle.std.specs.Prelude.{Some, None, is_some}
use Rattle.std.specs.declared.option.Option as code
use Rattle.words.specs.Found.{item_of}
use Rattle.words.proofs.FoundLaws.{item_some, item_none}
use Rattle.plan_record.specs.Record.{slot_at, level_at, gate_first, gate_second}
use Rattle.words.specs.Pins.{is_pin, empty}
use Rattle.plan_gates.specs.Gates.{gate_of}
use Rattle.plan_slots.specs.Slots.{top, slot_a, slot_b, feeds, pin_right, slot_right, nine_right, stands_in, ten_right, reads_pin, eleven_right, highest}
use Rattle.plan_slots.specs.Puts.{position_puts, read_puts, FilledWith, found_if, found_at}
use Rattle.plan_slots.proofs.PutLaws.{stands_highest, positions_found, reads_found}
use Rattle.plan_slots.proofs.SlotLaws.{ten_later}

-- ---- 9

pub pin_empty : (x : ℕ) → x ≡ empty → true ≡ pin_right x
unfolding pin_right
pin_empty x h = sym (rw (eq-eqb x empty h))

pub pin_other : (x : ℕ) → (x ≡ empty → ⊥) → leb x (2 ^ 30) ≡ pin_right x
unfolding pin_right
pin_other x h = sym (rw (ne_eqb x empty h))

module _ (d : List ℕ) (x a b : ℕ) (r : code.Option ℕ) (found : r ≡ item_of (gate_of d x)) where
  pub fed_missing : r ≡ None → false ≡ feeds d (gate_of d x) a b
  unfolding feeds
  fed_missing e = sym (ap (λ (o : Option ℕ). feeds d o a b) (item_none (gate_of d x) (sym found ∙ e)))

  module _ (g f s u v : ℕ) (gate : r ≡ Some g) (first : f ≡ gate_first d g) (second : s ≡ gate_second d g) (half : u ≡ f / 2) (half2 : v ≡ s / 2) where
    fed-by-gate : feeds d (gate_of d x) a b ≡ (eqb u a && eqb v b)
    unfolding feeds
    fed-by-gate =
        let i : gate_first d g / 2 ≡ u = sym (half ∙ ap (λ (y : ℕ). y / 2) first) in
        let j : gate_second d g / 2 ≡ v = sym (half2 ∙ ap (λ (y : ℕ). y / 2) second) in
        ap (λ (o : Option ℕ). feeds d o a b) (item_some (gate_of d x) g (sym found ∙ gate)) ∙ ap₂ (λ (y : ℕ) (z : ℕ). eqb y a && eqb z b) i j

    pub fed_first : u ≡ a → eqb v b ≡ feeds d (gate_of d x) a b
    fed_first e = sym (fed-by-gate ∙ ap (λ (t : Bool). t && eqb v b) (eq-eqb u a e))

    pub fed_not : (u ≡ a → ⊥) → false ≡ feeds d (gate_of d x) a b
    fed_not n = sym (fed-by-gate ∙ ap (λ (t : Bool). t && eqb v b) (ne_eqb u a n))

module _ (d : List ℕ) (p s q x : ℕ) (pin : x ≡ slot_at d p s q) where
  pub slot_empty : x ≡ empty → true ≡ slot_right d p s q
  unfolding slot_right
  slot_empty h = sym (rw (eq-eqb (slot_at d p s q) empty (sym pin ∙ h)))

  module _ (there : x ≡ empty → ⊥) where
    other : eqb (slot_at d p s q) empty ≡ false
    other = ne_eqb (slot_at d p s q) empty (λ e. there (pin ∙ e))

    pub slot_far : 2 ^ 30 < x → false ≡ slot_right d p s q
    unfolding slot_right
    slot_far h = let l : 2 ^ 30 < slot_at d p s q = omega arith in sym (rw (other, lt-leb (slot_at d p s q) (2 ^ 30) l))

    module _ (near : x ≤ 2 ^ 30) (m a : ℕ) (power : m ≡ top q) (below : a ≡ slot_at d p s (q + m)) where
      in-range : is_pin (slot_at d p s q) ≡ true
      in-range = let l : slot_at d p s q ≤ 2 ^ 30 = omega arith in le-leb (slot_at d p s q) (2 ^ 30) l

      is-a : a ≡ slot_a d p s q
      is-a = below ∙ ap (λ (k : ℕ). slot_at d p s (q + k)) power

      pub slot_carried : x ≡ a → true ≡ slot_right d p s q
      unfolding slot_right
      slot_carried h = let e : slot_at d p s q ≡ slot_a d p s q = sym pin ∙ (h ∙ is-a) in sym (rw (other, in-range, eq-eqb (slot_at d p s q) (slot_a d p s q) e))

      pub slot_fed : (b : ℕ) (r : Bool) → b ≡ slot_at d p s (q + 2 * m) → (x ≡ a → ⊥) → r ≡ feeds d (gate_of d x) a b → r ≡ slot_right d p s q
      unfolding slot_right
      slot_fed b r second n fed =
          let e : slot_at d p s q ≡ slot_a d p s q → ⊥ = λ h. n (pin ∙ (h ∙ sym is-a)) in
          let is_b : b ≡ slot_b d p s q = second ∙ ap (λ (k : ℕ). slot_at d p s (q + 2 * k)) power in
          let same : feeds d (gate_of d x) a b ≡ feeds d (gate_of d (slot_at d p s q)) (slot_a d p s q) (slot_b d p s q) = cc in
          fed ∙ (same ∙ sym (rw (other, in-range, ne_eqb (slot_at d p s q) (slot_a d p s q) e)))

module _ (d : List ℕ) (p s x : ℕ) (r : Bool) (level : r ≡ pin_right (level_at d p s x)) where
  pub nine_level : r ≡ false → false ≡ nine_right d p s x
  unfolding nine_right
  nine_level e = sym (rw (sym level ∙ e))

  pub nine_position : r ≡ true → 0 < x → slot_right d p s x ≡ nine_right d p s x
  unfolding nine_right
  nine_position e h = sym (rw (sym level ∙ e, ne_eqb x 0 (λ z. omega arith)))

-- item 0 has no position
pub nine_zero : (d : List ℕ) (p s : ℕ) → nine_right d p s 0 ≡ pin_right (level_at d p s 0)
unfolding nine_right
nine_zero d p s = and-true (pin_right (level_at d p s 0))

-- ---- 10

module _ (d t : List ℕ) (p s j x : ℕ) (pin : x ≡ level_at d p (s + 1) j) where
  pub ten_empty : x ≡ empty → true ≡ ten_right d p (s + 1) j
  ten_empty h = sym (ten_later d p s j ∙ ap (λ (b : Bool). b || stands_in d p s (level_at d p (s + 1) j)) (eq-eqb _ _ (sym pin ∙ h)))

  module _ (there : x ≡ empty → ⊥) (held : FilledWith (position_puts d p s) t) (r : code.Option ℕ) (found : r ≡ item_of (look t x)) where
    by-table : ten_right d p (s + 1) j ≡ ltb 0 (highest d p s x)
    by-table =
        ten_later d p s j
        ∙ (ap (λ (b : Bool). b || stands_in d p s (level_at d p (s + 1) j)) (ne_eqb _ _ (λ e. there (pin ∙ e)))
        ∙ (ap (stands_in d p s) (sym pin) ∙ stands_highest d p s x))

    at-highest : look t x ≡ found_at (highest d p s x)
    at-highest = positions_found d t p s x held there

    pub ten_looked : is_some r ≡ ten_right d p (s + 1) j
    ten_looked = go (highest d p s x) refl
      where
        go : (h : ℕ) → highest d p s x ≡ h → is_some r ≡ ten_right d p (s + 1) j
        go zero k = ap is_some (found ∙ ap item_of (at-highest ∙ ap found_at k)) ∙ sym (by-table ∙ ap (ltb 0) k)
        go (suc h) k = ap is_some (found ∙ ap item_of (at-highest ∙ ap found_at k)) ∙ sym (by-table ∙ lt-ltb 0 (highest d p s x) (omega arith))

-- ---- 11

pub eleven_zero : (d : List ℕ) (p s : ℕ) → eleven_right d p s 0 ≡ true
unfolding eleven_right
eleven_zero d p s = refl

module _ (d t : List ℕ) (p s q x : ℕ) (some-q : 0 < q) (pin : x ≡ slot_at d p s q) where
  not-zero : eqb q 0 ≡ false
  not-zero = ne_eqb q 0 (λ e. omega arith)

  pub eleven_empty : x ≡ empty → true ≡ eleven_right d p s q
  unfolding eleven_right
  eleven_empty h = sym (rw (not-zero, eq-eqb (slot_at d p s q) empty (sym pin ∙ h)))

  module _ (there : x ≡ empty → ⊥) (m a : ℕ) (power : m ≡ top q) (below : a ≡ slot_at d p s (q + m)) where
    carried_from : a ≡ slot_a d p s q
    carried_from = below ∙ ap (λ (k : ℕ). slot_at d p s (q + k)) power

    pub eleven_carried : x ≡ a → true ≡ eleven_right d p s q
    unfolding eleven_right
    eleven_carried h =
        let e : slot_at d p s q ≡ slot_a d p s q = sym pin ∙ (h ∙ carried_from) in
        sym (rw (not-zero, ne_eqb (slot_at d p s q) empty (λ k. there (pin ∙ k)), eq-eqb (slot_at d p s q) (slot_a d p s q) e))

    module _ (differs : x ≡ a → ⊥) (held : FilledWith (read_puts d p) t) (r : code.Option ℕ) (found : r ≡ item_of (look t x)) where
      by-reads : eleven_right d p s q ≡ not (reads_pin d p x)
      unfolding eleven_right
      by-reads =
          let e : slot_at d p s q ≡ slot_a d p s q → ⊥ = λ h. differs (pin ∙ (h ∙ sym carried_from)) in
          rw (not-zero, ne_eqb (slot_at d p s q) empty (λ k. there (pin ∙ k)), ne_eqb (slot_at d p s q) (slot_a d p s q) e)
          (ap (λ (y : ℕ). not (reads_pin d p y)) (sym pin))

      pub eleven_looked : (b : Bool) → is_some r ≡ not b → b ≡ eleven_right d p s q
      eleven_looked b e = go b (reads_pin d p x) refl (sym e ∙ ap is_some (found ∙ ap item_of (reads_found d t p x held there)))
        where
          go : (b h : Bool) → reads_pin d p x ≡ h → not b ≡ is_some (item_of (found_if h 0)) → b ≡ eleven_right d p s q
          go true true k e = cc
          go false true k e = sym (by-reads ∙ ap not k)
          go true false k e = sym (by-reads ∙ ap not k)
          go false false k e = cc
