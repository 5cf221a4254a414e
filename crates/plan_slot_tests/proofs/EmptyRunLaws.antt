-- Eight empty slots at once: the bits that all of them have are those of the empty pin, and no refusal says anything of an empty slot.
-- Assumes nothing.
use mathlib.Core.Path.{◌≡◌, refl, sym, ap, ap₂, ◌∙◌}
use mathlib.Core.Bool.{Bool, true, false, ◌&&◌}
use mathlib.Core.List.{List}
use Prim.Native.Nat.{ℕ, ◌+◌, ◌%◌, ◌≤◌, ◌<◌}
use native.Mathlib.Omega.{arith}
use borrow.Author.Tests.{eq-eqb, ne_eqb, eqb-true, eqb-false}
use lib.Bits.{bit_and, and_le_l, and_le_r, and_self}
use lib.Dec.{eqb}
use Rattle.plan_record.specs.Record.{slots_of, slot_at}
use Rattle.words.specs.Pins.{empty}
use Rattle.words.specs.Tests.{all_below}
use Rattle.words.proofs.TestLaws.{and_true, all_more, all_at}
use Rattle.plan_slots.specs.Slots.{nine_right, ten_right, eleven_right}
use Rattle.plan_slot_tests.specs.EmptyRuns.{empty_from, eighth_empty}
use Rattle.plan_slot_tests.proofs.SlotTestLaws.{pin_empty, slot_empty, nine_position, ten_empty, eleven_empty}

-- ---- the code's test: bits in common

common_empty : (a b : ℕ) → a ≤ empty → b ≤ empty → eqb (bit_and a b) empty ≡ (eqb a empty && eqb b empty)
common_empty a b la lb = go (eqb a empty) refl (eqb b empty) refl
  where
    go : (t : Bool) → eqb a empty ≡ t → (u : Bool) → eqb b empty ≡ u → eqb (bit_and a b) empty ≡ (eqb a empty && eqb b empty)
    go true e true f =
        let m : bit_and a b ≡ empty = ap₂ bit_and (eqb-true a empty e) (eqb-true b empty f) ∙ and_self empty in
        eq-eqb (bit_and a b) empty m ∙ sym (ap₂ ◌&&◌ e f)
    go false e u f =
        ne_eqb (bit_and a b) empty (λ (m : bit_and a b ≡ empty). eqb-false a empty e (omega (arith, and_le_l a b))) ∙ sym (ap (λ (t : Bool). t && eqb b empty) e)
    go true e false f =
        ne_eqb (bit_and a b) empty (λ (m : bit_and a b ≡ empty). eqb-false b empty f (omega (arith, and_le_r a b))) ∙ sym (ap₂ ◌&&◌ e f)

pub common_more : (d : List ℕ) (p s q k a x : ℕ) → a ≤ empty → x ≤ empty → x ≡ slot_at d p s (q + k) → eqb a empty ≡ all_below (empty_from d p s q) k
    → (bit_and a x ≤ empty) × (eqb (bit_and a x) empty ≡ all_below (empty_from d p s q) (k + 1))
common_more d p s q k a x la lx e h =
    (omega (arith, and_le_l a x), common_empty a x la lx ∙ (ap₂ ◌&&◌ h (ap (λ (y : ℕ). eqb y empty) e) ∙ sym (all_more (empty_from d p s q) k)))

module _ (d : List ℕ) (p s q : ℕ) where
  pub eighth_here : q % 8 ≡ 0 → all_below (empty_from d p s q) 8 ≡ eighth_empty d p s q
  unfolding eighth_empty
  eighth_here h = sym (ap (λ (t : Bool). t && all_below (empty_from d p s q) 8) (eq-eqb (q % 8) 0 h))

  pub eighth_not : (q % 8 ≡ 0 → ⊥) → false ≡ eighth_empty d p s q
  unfolding eighth_empty
  eighth_not h = sym (ap (λ (t : Bool). t && all_below (empty_from d p s q) 8) (ne_eqb (q % 8) 0 h))

  -- what it says
  pub eighth_slots : eighth_empty d p s q ≡ true → (q % 8 ≡ 0) × ((k : ℕ) → k < 8 → slot_at d p s (q + k) ≡ empty)
  unfolding eighth_empty
  eighth_slots h =
      let (a, b) = and_true (eqb (q % 8) 0) (all_below (empty_from d p s q) 8) h in
      (eqb-true _ _ a, λ k l. eqb-true _ _ (all_at (empty_from d p s q) 8 k b l))

-- ---- eight items that no refusal says anything of

pub nine_eight : (d : List ℕ) (p s x : ℕ) → 0 < x → (eighth_empty d p s x && eighth_empty d p s (slots_of d + x)) ≡ true
    → (x % 8 ≡ 0) × ((k : ℕ) → k < 8 → nine_right d p s (x + k) ≡ true)
nine_eight d p s x h e =
    let (a, b) = and_true (eighth_empty d p s x) (eighth_empty d p s (slots_of d + x)) e in
    let (m, position) = eighth_slots d p s x a in
    let level = (eighth_slots d p s (slots_of d + x) b).1 in (
      m,
      λ k l.
          let z : slots_of d + (x + k) ≡ slots_of d + x + k = omega arith in
          let v : slot_at d p s (slots_of d + (x + k)) ≡ empty = ap (slot_at d p s) z ∙ level k l in
          sym (nine_position d p s (x + k) true (pin_empty _ v) refl (omega arith)) ∙ sym (slot_empty d p s (x + k) _ refl (position k l)),
    )

pub ten_eight : (d : List ℕ) (p s j : ℕ) → eighth_empty d p (s + 1) (slots_of d + j) ≡ true
    → (j % 8 ≡ 0) × ((k : ℕ) → k < 8 → ten_right d p (s + 1) (j + k) ≡ true)
ten_eight d p s j e =
    let (m, level) = eighth_slots d p (s + 1) (slots_of d + j) e in (
      omega arith,
      λ k l.
          let z : slots_of d + (j + k) ≡ slots_of d + j + k = omega arith in
          sym (ten_empty d d p s (j + k) _ refl (ap (slot_at d p (s + 1)) z ∙ level k l)),
    )

pub eleven_eight : (d : List ℕ) (p s q : ℕ) → 0 < q → eighth_empty d p s q ≡ true
    → (q % 8 ≡ 0) × ((k : ℕ) → k < 8 → eleven_right d p s (q + k) ≡ true)
eleven_eight d p s q h e =
    let (m, position) = eighth_slots d p s q e in
    (m, λ k l. sym (eleven_empty d d p s (q + k) _ (omega arith) refl (position k l)))
