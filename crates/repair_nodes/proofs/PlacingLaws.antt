-- Laws of a placing: it stays on its row and inside the stage, its nodes are pins, and where the subtree was empty each of its slots was.
-- Assumes nothing.
use mathlib.Core.Path.{◌≡◌, refl, sym, ap, ◌∙◌}
use mathlib.Core.Bool.{Bool, true, false, ◌&&◌}
use mathlib.Core.Option.{Option, none, some}
use mathlib.Core.List.{List, ◌++◌}
use Prim.Native.Nat.{ℕ, zero, suc, ◌+◌, ◌*◌, ◌-◌, ◌/◌, ◌^◌, ◌≤◌, ◌<◌}
use native.Mathlib.Nat.{pow-suc, one-le-pow, le-mul_of_pos_right}
use native.Mathlib.Numerals.{add-one}
use native.Mathlib.Omega.{arith}
use borrow.Author.Tests.{eqb-true}
use lib.Dec.{eqb}
use lib.Pow.{pow-add}
use Rattle.words.specs.Pins.{empty}
use Rattle.words.proofs.TestLaws.{and_true}
use Rattle.gatelist.specs.ListWords.{list_first, list_second, bad_list, gate_in}
use Rattle.gatelist.proofs.ListWordLaws.{first_under, second_under}
use Rattle.repair_nodes.specs.Stage.{Spot, Rooted, width, index_of, slot_in, spots_stored, empty_below}
use Rattle.repair_nodes.specs.Placing.{node_level, first_pin, second_pin, placing}
use Rattle.repair_nodes.proofs.StageFrameLaws.{Off, Along, along_none, along_more, along_append, along_a, along_b, stored_off}

-- ---- a place, with the slots below it inside a stage of L

module _ (L h m q : ℕ) where
  halves : Rooted L (suc h) m q → 2 * (2 * m) * 2 ^ h ≤ L + 1
  halves r =
      let e : 2 ^ suc h ≡ 2 ^ h * 2 = pow-suc 2 h in
      let f : 2 * m * (2 ^ h * 2) ≤ L + 1 = rw e at r.fits in
      omega arith

  pub rooted_a : Rooted L (suc h) m q → Rooted L h (2 * m) (q + m)
  rooted_a r = record { wide = omega (arith, r.wide); low = omega (arith, r.low); high = omega (arith, r.high); fits = halves r }

  pub rooted_b : Rooted L (suc h) m q → Rooted L h (2 * m) (q + 2 * m)
  rooted_b r = record { wide = omega (arith, r.wide); low = omega (arith, r.low); high = omega (arith, r.high); fits = halves r }

  pub rooted_inside : Rooted L h m q → q ≤ L
  rooted_inside r =
      let p : 0 < 2 ^ h = one-le-pow h 2 (omega arith) in
      let f : 2 * m ≤ 2 * m * 2 ^ h = le-mul_of_pos_right (2 * m) p in
      omega (arith, r.high, r.fits)

  pub rooted_positive : Rooted L h m q → 0 < q
  rooted_positive r = omega (arith, r.wide, r.low)

-- the place of a slot of level h, in a stage that has all its slots
pub rooted_place : (L H h j : ℕ) → h ≤ H → j < width H h → 2 ^ (H + 1) - 1 ≤ L → Rooted L h (width H h) (index_of H h j)
rooted_place L H h j k l f =
    let p : 0 < width H h = one-le-pow (H - h) 2 (omega arith) in
    let e : width H h * 2 ^ h ≡ 2 ^ H = powers H h k in
    let g : 2 ^ (H + 1) ≡ 2 ^ H * 2 = rw (add-one H) (pow-suc 2 H) in
    record { wide = p; low = omega arith; high = omega arith; fits = omega arith }
  where
    powers : (H h : ℕ) → h ≤ H → 2 ^ (H - h) * 2 ^ h ≡ 2 ^ H
    powers H h k = let e : H - h + h ≡ H = omega arith in sym (pow-add 2 (H - h) h) ∙ ap (λ (n : ℕ). 2 ^ n) e

-- ---- the placing's row

first_step : (m q : ℕ) → q ≡ q + 0 * m
first_step m q = omega arith

module _ (gates levels : List ℕ) where
  pub placing_along : (h m q x : ℕ) → Along m q (placing gates levels h m q x)
  unfolding placing
  placing_along zero m q x = along_more 0 (first_step m q) along_none
  placing_along (suc h) m q x =
      along_more 0 (first_step m q)
      (go (eqb (node_level levels x) (suc h))
      (placing_along h (2 * m) (q + m) (first_pin gates x))
      (placing_along h (2 * m) (q + 2 * m) (second_pin gates x))
      (placing_along h (2 * m) (q + m) x))
    where
      go : {A B C : List Spot} (b : Bool) → Along (2 * m) (q + m) A → Along (2 * m) (q + 2 * m) B → Along (2 * m) (q + m) C
          → Along m q (elim b [ true ↦ A ++ B | false ↦ C ])
      go true a b c = along_append (along_a a) (along_b b)
      go false a b c = along_a c

  -- "nothing outside the subtree changes": slots before its own, and those that leave another remainder
  pub placing_keeps : (s : List ℕ) (h m q x i : ℕ) → 0 < q → 0 < i → Off m q i → slot_in (spots_stored s (placing gates levels h m q x)) i ≡ slot_in s i
  placing_keeps s h m q x i p r o = stored_off (placing_along h m q x) s i p r o

-- ---- fan-ins of a pin are pins, where refusal 6 is excluded

pub first_is : (gates : List ℕ) (x g : ℕ) → gate_in gates x ≡ some g → first_pin gates x ≡ list_first gates g / 2
unfolding first_pin
first_is gates x g e = rw (e, first_pin)

pub second_is : (gates : List ℕ) (x g : ℕ) → gate_in gates x ≡ some g → second_pin gates x ≡ list_second gates g / 2
unfolding second_pin
second_is gates x g e = rw (e, second_pin)

module _ (gates : List ℕ) (good : bad_list gates ≡ none) (x : ℕ) where
  pub first_pin_lem : x ≤ 2 ^ 30 → first_pin gates x ≤ 2 ^ 30
  unfolding first_pin
  first_pin_lem h = go (gate_in gates x) refl
    where
      go : (o : Option ℕ) → gate_in gates x ≡ o → (elim o [ some g ↦ list_first gates g / 2 | none ↦ 0 ]) ≤ 2 ^ 30
      go none e = omega arith
      go (some g) e = let l : list_first gates g / 2 < x = first_under gates good x g e in omega arith

  pub second_pin_lem : x ≤ 2 ^ 30 → second_pin gates x ≤ 2 ^ 30
  unfolding second_pin
  second_pin_lem h = go (gate_in gates x) refl
    where
      go : (o : Option ℕ) → gate_in gates x ≡ o → (elim o [ some g ↦ list_second gates g / 2 | none ↦ 0 ]) ≤ 2 ^ 30
      go none e = omega arith
      go (some g) e = let l : list_second gates g / 2 < x = second_under gates good x g e in omega arith

-- ---- an empty subtree, taken apart

pub empty_root : (s : List ℕ) (h m q : ℕ) → empty_below s h m q ≡ true → slot_in s q ≡ empty
unfolding empty_below
empty_root s zero m q e = eqb-true _ _ e
empty_root s (suc h) m q e =
    let (ab, c) = and_true (eqb (slot_in s q) empty && empty_below s h (2 * m) (q + m)) (empty_below s h (2 * m) (q + 2 * m)) e in
    eqb-true _ _ (and_true (eqb (slot_in s q) empty) (empty_below s h (2 * m) (q + m)) ab).0

module _ (s : List ℕ) (h m q : ℕ) where
  pub empty_a : empty_below s (suc h) m q ≡ true → empty_below s h (2 * m) (q + m) ≡ true
  unfolding empty_below
  empty_a e =
      let (ab, c) = and_true (eqb (slot_in s q) empty && empty_below s h (2 * m) (q + m)) (empty_below s h (2 * m) (q + 2 * m)) e in
      (and_true (eqb (slot_in s q) empty) (empty_below s h (2 * m) (q + m)) ab).1

  pub empty_b : empty_below s (suc h) m q ≡ true → empty_below s h (2 * m) (q + 2 * m) ≡ true
  unfolding empty_below
  empty_b e = (and_true (eqb (slot_in s q) empty && empty_below s h (2 * m) (q + m)) (empty_below s h (2 * m) (q + 2 * m)) e).1
