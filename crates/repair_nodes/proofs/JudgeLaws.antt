-- Laws of 25 and 26 and of the placing, step by step in the code's terms: above its level a node is carried, at its level its gate is split, and what is found of a
-- node is found of what is below it.
-- Assumes nothing.
use mathlib.Core.Path.{◌≡◌, refl, sym, ap, ◌∙◌}
use mathlib.Core.Bool.{Bool, true, false, not, ◌||◌}
use mathlib.Core.Option.{none, some}
use mathlib.Core.List.{List, [], ◌∷◌, ◌++◌}
use Prim.Native.Nat.{ℕ, zero, suc, ◌+◌, ◌*◌, ◌-◌, ◌^◌, ◌≤◌, ◌<◌}
use native.Mathlib.Nat.{not-suc-le-zero, pow-suc}
use native.Mathlib.Numerals.{sub-one, add-one}
use native.Mathlib.Omega.{arith}
use borrow.Author.Tests.{ltb-true, leb-true, lt-ltb, le-ltb, le-leb, lt-leb, eq-eqb, ne_eqb, not-false}
use lib.Dec.{eqb, ltb, leb}
use lib.ListN.{length, length-append}
use Rattle.words.specs.Pins.{empty}
use Rattle.words.proofs.TestLaws.{not_both, and_true}
use Rattle.gatelist.specs.ListWords.{gate_in}
use Rattle.repair_nodes.specs.Stage.{Spot, spot, slot_in}
use Rattle.repair_nodes.specs.Placing.{node_level, first_pin, second_pin, placing, level_right, bad_level, no_gate, Judged}
use Rattle.repair_nodes.specs.Clearing.{clearing}

pub or_parts : (a b : Bool) → (a || b) ≡ false → (a ≡ false) × (b ≡ false)
or_parts false b e = (refl, e)
or_parts true b e = absurd (not_both true refl e)

-- ---- a node's level

module _ (levels : List ℕ) (h x : ℕ) where
  pub level_right_lem : x < length levels → node_level levels x ≤ h → level_right levels h x ≡ true
  unfolding level_right
  level_right_lem l k = rw (lt-ltb x (length levels) l, le-leb (node_level levels x) h k)

  pub level_none : length levels ≤ x → level_right levels h x ≡ false
  unfolding level_right
  level_none l = rw (le-ltb x (length levels) l)

  pub level_above : x < length levels → h < node_level levels x → level_right levels h x ≡ false
  unfolding level_right
  level_above l k = rw (lt-ltb x (length levels) l, lt-leb (node_level levels x) h k)

  pub level_parts : level_right levels h x ≡ true → (x < length levels) × (node_level levels x ≤ h)
  unfolding level_right
  level_parts e = let (a, b) = and_true (ltb x (length levels)) (leb (node_level levels x) h) e in (ltb-true _ _ a, leb-true _ _ b)

-- a root over two halves or one has at most one slot for each of the subtree's
power_on : (h : ℕ) → 2 ^ (suc h + 1) ≡ 2 ^ (h + 1) * 2
power_on h = rw (add-one (suc h), add-one h) (pow-suc 2 (suc h))

size_of_lem : (e : Spot) (A B C : List Spot) (h : ℕ) (b : Bool) → 1 + length A ≤ 2 ^ (h + 1) → 1 + length B ≤ 2 ^ (h + 1) → 1 + length C ≤ 2 ^ (h + 1)
    → 1 + length (e ∷ elim b [ true ↦ A ++ B | false ↦ C ]) ≤ 2 ^ (suc h + 1)
size_of_lem e A B C h true a b c =
    let p : 2 ^ (suc h + 1) ≡ 2 ^ (h + 1) * 2 = power_on h in
    let n : length (A ++ B) ≡ length A + length B = length-append A B in
    omega arith
size_of_lem e A B C h false a b c = let p : 2 ^ (suc h + 1) ≡ 2 ^ (h + 1) * 2 = power_on h in omega arith

module _ (gates levels : List ℕ) where
  -- ---- 25

  pub bad_level_lem : (h x : ℕ) → level_right levels h x ≡ false → bad_level gates levels h x ≡ true
  unfolding bad_level
  bad_level_lem zero x e = ap not e
  bad_level_lem (suc h) x e = rw e

  pub bad_known : (h x : ℕ) → bad_level gates levels h x ≡ false → (x < length levels) × (node_level levels x ≤ h)
  unfolding bad_level
  bad_known zero x e = level_parts levels 0 x (not-false _ e)
  bad_known (suc h) x e = level_parts levels (suc h) x (not-false _ (or_parts (not (level_right levels (suc h) x)) _ e).0)

  pub bad_last : (x : ℕ) → level_right levels 0 x ≡ true → bad_level gates levels 0 x ≡ false
  unfolding bad_level
  bad_last x e = ap not e

  pub bad_down : (h x : ℕ) → 0 < h → level_right levels h x ≡ true → node_level levels x < h → bad_level gates levels h x ≡ bad_level gates levels (h - 1) x
  unfolding bad_level
  bad_down zero x p r l = absurd (not-suc-le-zero p)
  bad_down (suc h) x p r l = rw (r, ne_eqb (node_level levels x) (suc h) (λ (e : node_level levels x ≡ suc h). omega arith), sub-one)

  pub bad_split : (h x g : ℕ) → 0 < h → level_right levels h x ≡ true → node_level levels x ≡ h → gate_in gates x ≡ some g
      → bad_level gates levels h x ≡ (bad_level gates levels (h - 1) (first_pin gates x) || bad_level gates levels (h - 1) (second_pin gates x))
  unfolding bad_level
  bad_split zero x g p r l e = absurd (not-suc-le-zero p)
  bad_split (suc h) x g p r l e = rw (r, eq-eqb (node_level levels x) (suc h) l, e, sub-one)

  pub bad_gateless : (h x : ℕ) → 0 < h → level_right levels h x ≡ true → node_level levels x ≡ h → gate_in gates x ≡ none → bad_level gates levels h x ≡ false
  unfolding bad_level
  bad_gateless zero x p r l e = absurd (not-suc-le-zero p)
  bad_gateless (suc h) x p r l e = rw (r, eq-eqb (node_level levels x) (suc h) l, e)

  -- ---- 26

  pub gate_last : (x : ℕ) → no_gate gates levels 0 x ≡ false
  unfolding no_gate
  gate_last x = refl

  pub gate_down : (h x : ℕ) → 0 < h → node_level levels x < h → no_gate gates levels h x ≡ no_gate gates levels (h - 1) x
  unfolding no_gate
  gate_down zero x p l = absurd (not-suc-le-zero p)
  gate_down (suc h) x p l = rw (ne_eqb (node_level levels x) (suc h) (λ (e : node_level levels x ≡ suc h). omega arith), no_gate, sub-one)

  pub gate_split : (h x g : ℕ) → 0 < h → node_level levels x ≡ h → gate_in gates x ≡ some g
      → no_gate gates levels h x ≡ (no_gate gates levels (h - 1) (first_pin gates x) || no_gate gates levels (h - 1) (second_pin gates x))
  unfolding no_gate
  gate_split zero x g p l e = absurd (not-suc-le-zero p)
  gate_split (suc h) x g p l e = rw (eq-eqb (node_level levels x) (suc h) l, e, no_gate, sub-one)

  pub gate_none : (h x : ℕ) → 0 < h → node_level levels x ≡ h → gate_in gates x ≡ none → no_gate gates levels h x ≡ true
  unfolding no_gate
  gate_none zero x p l e = absurd (not-suc-le-zero p)
  gate_none (suc h) x p l e = rw (eq-eqb (node_level levels x) (suc h) l, e, no_gate)

  -- ---- the placing

  pub place_last : (h m q x : ℕ) → h ≡ 0 → placing gates levels h m q x ≡ spot q x ∷ []
  unfolding placing
  place_last zero m q x e = refl
  place_last (suc h) m q x e = absurd (omega arith)

  pub place_carry : (h m q x : ℕ) → 0 < h → node_level levels x < h → placing gates levels h m q x ≡ spot q x ∷ placing gates levels (h - 1) (2 * m) (q + m) x
  unfolding placing
  place_carry zero m q x p l = absurd (not-suc-le-zero p)
  place_carry (suc h) m q x p l = rw (ne_eqb (node_level levels x) (suc h) (λ (e : node_level levels x ≡ suc h). omega arith), sub-one)

  pub place_split : (h m q x : ℕ) → 0 < h → node_level levels x ≡ h
      → placing gates levels h m q x
      ≡ spot q x ∷ (placing gates levels (h - 1) (2 * m) (q + m) (first_pin gates x) ++ placing gates levels (h - 1) (2 * m) (q + 2 * m) (second_pin gates x))
  unfolding placing
  place_split zero m q x p l = absurd (not-suc-le-zero p)
  place_split (suc h) m q x p l = rw (eq-eqb (node_level levels x) (suc h) l, sub-one)

  pub placing_some : (h m q x : ℕ) → 0 < length (placing gates levels h m q x)
  unfolding placing
  placing_some zero m q x = omega arith
  placing_some (suc h) m q x = omega arith

  -- it has at most one slot for each of the subtree's
  pub placing_size : (h m q x : ℕ) → 1 + length (placing gates levels h m q x) ≤ 2 ^ (h + 1)
  unfolding placing
  placing_size zero m q x = omega arith
  placing_size (suc h) m q x =
      let A = placing gates levels h (2 * m) (q + m) (first_pin gates x) in
      let B = placing gates levels h (2 * m) (q + 2 * m) (second_pin gates x) in
      let C = placing gates levels h (2 * m) (q + m) x in
      size_of_lem (spot q x) A B C h (eqb (node_level levels x) (suc h))
      (placing_size h (2 * m) (q + m) (first_pin gates x)) (placing_size h (2 * m) (q + 2 * m) (second_pin gates x)) (placing_size h (2 * m) (q + m) x)

  -- ---- what is judged of a node is judged of what is below it

  pub judged_known : (h x : ℕ) → Judged gates levels h x → (x < length levels) × (node_level levels x ≤ h)
  judged_known h x j = bad_known h x j.levels-right

  module _ (h x : ℕ) (j : Judged gates levels h x) (p : 0 < h) where
    right : level_right levels h x ≡ true
    right = let (l, k) = judged_known h x j in level_right_lem levels h x l k

    pub judged_carry : node_level levels x < h → Judged gates levels (h - 1) x
    judged_carry l =
        record {
          gates_right = j.gates_right;
          levels-right = sym (bad_down h x p right l) ∙ j.levels-right;
          all-gates = sym (gate_down h x p l) ∙ j.all-gates;
        }

    pub judged_gate : node_level levels x ≡ h → gate_in gates x ≡ none → ⊥
    judged_gate l e = not_both (no_gate gates levels h x) (gate_none h x p l e) j.all-gates

    module _ (g : ℕ) (l : node_level levels x ≡ h) (e : gate_in gates x ≡ some g) where
      bad-parts : (bad_level gates levels (h - 1) (first_pin gates x) ≡ false) × (bad_level gates levels (h - 1) (second_pin gates x) ≡ false)
      bad-parts =
          or_parts (bad_level gates levels (h - 1) (first_pin gates x)) (bad_level gates levels (h - 1) (second_pin gates x))
          (sym (bad_split h x g p right l e) ∙ j.levels-right)

      gate_parts : (no_gate gates levels (h - 1) (first_pin gates x) ≡ false) × (no_gate gates levels (h - 1) (second_pin gates x) ≡ false)
      gate_parts =
          or_parts (no_gate gates levels (h - 1) (first_pin gates x)) (no_gate gates levels (h - 1) (second_pin gates x))
          (sym (gate_split h x g p l e) ∙ j.all-gates)

      pub judged_first : Judged gates levels (h - 1) (first_pin gates x)
      judged_first = record { gates_right = j.gates_right; levels-right = bad-parts.0; all-gates = gate_parts.0 }

      pub judged_second : Judged gates levels (h - 1) (second_pin gates x)
      judged_second = record { gates_right = j.gates_right; levels-right = bad-parts.1; all-gates = gate_parts.1 }

-- ---- clearing reaches at most one slot for each of the subtree's

unless_empty : (A : List Spot) (n : ℕ) (b : Bool) → 1 + length A ≤ n → 1 ≤ n → 1 + length {A = Spot} (elim b [ true ↦ [] | false ↦ A ]) ≤ n
unless_empty A n true h p = p
unless_empty A n false h p = h

pub clearing_size : (s : List ℕ) (h m q : ℕ) → 1 + length (clearing s h m q) ≤ 2 ^ (h + 1)
unfolding clearing
clearing_size s zero m q = unless_empty (spot q (slot_in s q) ∷ []) (2 ^ (0 + 1)) (eqb (slot_in s q) empty) (omega arith) (omega arith)
clearing_size s (suc h) m q =
    let A = clearing s h (2 * m) (q + m) in
    let B = clearing s h (2 * m) (q + 2 * m) in
    let a : 1 + length A ≤ 2 ^ (h + 1) = clearing_size s h (2 * m) (q + m) in
    let n : 1 + length (spot q (slot_in s q) ∷ (A ++ B)) ≤ 2 ^ (suc h + 1) =
    size_of_lem (spot q (slot_in s q)) A B A h true a (clearing_size s h (2 * m) (q + 2 * m)) a in
    unless_empty (spot q (slot_in s q) ∷ (A ++ B)) (2 ^ (suc h + 1)) (eqb (slot_in s q) empty) n (omega arith)
