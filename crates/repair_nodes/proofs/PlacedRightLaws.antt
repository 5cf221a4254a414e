-- "A repaired stage is right": where the subtree was empty, every slot in it passes the test of refusal 9 after a placing: it is empty, a, or the gate of a and b.
-- Assumes nothing.
use mathlib.Core.Path.{◌≡◌, refl, sym, ap, ap₂, ◌∙◌}
use mathlib.Core.Bool.{Bool, true, false, ◌&&◌, ◌||◌, or-true}
use mathlib.Core.Option.{Option, none, some}
use mathlib.Core.List.{List, [], ◌∷◌, ◌++◌, append-nil}
use Prim.Native.Nat.{ℕ, zero, suc, ◌+◌, ◌*◌, ◌-◌, ◌/◌, ◌^◌, ◌≤◌}
use borrow.Author.Tests.{eq-eqb, le-leb}
use lib.Dec.{eqb}
use lib.ListN.{length, set}
use Rattle.words.specs.Pins.{is_pin, empty}
use Rattle.words.proofs.TestLaws.{not_both, true_and}
use Rattle.gatelist.specs.ListWords.{list_first, list_second, bad_list, gate_in}
use Rattle.repair_nodes.specs.Stage.{Spot, spot, Rooted, slot_in, spots_stored, empty_below, list_feeds, stands_right, stage_slot_right, right_below}
use Rattle.repair_nodes.specs.Placing.{node_level, first_pin, second_pin, placing, no_gate}
use Rattle.repair_nodes.proofs.StageFrameLaws.{Along, along_none, agree_a, agree_b, at_start, slot_put}
use Rattle.repair_nodes.proofs.PlacingLaws.{rooted_inside, rooted_positive, placing_along, first_is, second_is, first_pin_lem, second_pin_lem, empty_root, empty_a, empty_b}
use Rattle.repair_nodes.proofs.JudgeLaws.{or_parts}
use Rattle.repair_nodes.proofs.ReachLaws.{root_put, a_put, b_put, stored_both, stored_one, half_root, half_a, half_empty_a, half_empty_b, root_rooted, a_rooted}

-- ---- the test of one slot

module _ (gates : List ℕ) where
  pub right_empty : (x a b : ℕ) → x ≡ empty → stands_right gates x a b ≡ true
  unfolding stands_right
  right_empty x a b e = rw (eq-eqb x empty e)

  pin-test : (x : ℕ) → x ≤ 2 ^ 30 → is_pin x ≡ true
  pin-test x h = le-leb x (2 ^ 30) h

  pub right_carried : (x a b : ℕ) → x ≤ 2 ^ 30 → a ≡ x → stands_right gates x a b ≡ true
  unfolding stands_right
  right_carried x a b h e =
      let k : (is_pin x && (eqb x a || list_feeds gates (gate_in gates x) a b)) ≡ true =
      true_and (is_pin x) (eqb x a || list_feeds gates (gate_in gates x) a b) (pin-test x h) (ap (λ (t : Bool). t || list_feeds gates (gate_in gates x) a b) (eq-eqb x a (sym e))) in
      ap (λ (t : Bool). eqb x empty || t) k ∙ or-true (eqb x empty)

  feeds-own : (x a b g : ℕ) → gate_in gates x ≡ some g → a ≡ first_pin gates x → b ≡ second_pin gates x → list_feeds gates (gate_in gates x) a b ≡ true
  unfolding list_feeds
  feeds-own x a b g e u v =
      let f : a ≡ list_first gates g / 2 = u ∙ first_is gates x g e in
      let k : b ≡ list_second gates g / 2 = v ∙ second_is gates x g e in
      rw e (true_and (eqb (list_first gates g / 2) a) (eqb (list_second gates g / 2) b) (eq-eqb _ _ (sym f)) (eq-eqb _ _ (sym k)))

  pub right_gate : (x a b g : ℕ) → x ≤ 2 ^ 30 → gate_in gates x ≡ some g → a ≡ first_pin gates x → b ≡ second_pin gates x → stands_right gates x a b ≡ true
  unfolding stands_right
  right_gate x a b g h e u v =
      let f : (eqb x a || list_feeds gates (gate_in gates x) a b) ≡ true =
      ap (λ (t : Bool). eqb x a || t) (feeds-own x a b g e u v) ∙ or-true (eqb x a) in
      let k : (is_pin x && (eqb x a || list_feeds gates (gate_in gates x) a b)) ≡ true =
      true_and (is_pin x) (eqb x a || list_feeds gates (gate_in gates x) a b) (pin-test x h) f in
      ap (λ (t : Bool). eqb x empty || t) k ∙ or-true (eqb x empty)

  -- ---- the test of a subtree

  parts : (s : List ℕ) (h m q : ℕ) → stage_slot_right gates s m q ≡ true → right_below gates s h (2 * m) (q + m) ≡ true
      → right_below gates s h (2 * m) (q + 2 * m) ≡ true → right_below gates s (suc h) m q ≡ true
  unfolding right_below
  parts s h m q x y z =
      true_and (stage_slot_right gates s m q && right_below gates s h (2 * m) (q + m)) (right_below gates s h (2 * m) (q + 2 * m))
      (true_and (stage_slot_right gates s m q) (right_below gates s h (2 * m) (q + m)) x y) z

  right_last : (s : List ℕ) (m q : ℕ) → (eqb (slot_in s q) empty || is_pin (slot_in s q)) ≡ true → right_below gates s 0 m q ≡ true
  unfolding right_below
  right_last s m q h = h

  nothing_put : (s : List ℕ) (h m q : ℕ) → right_below gates s h m q ≡ true → right_below gates (spots_stored s []) h m q ≡ true
  unfolding spots_stored
  nothing_put s h m q e = e

  pub empty_right : (s : List ℕ) (h m q : ℕ) → empty_below s h m q ≡ true → right_below gates s h m q ≡ true
  empty_right s zero m q e = right_last s m q (ap (λ (t : Bool). t || is_pin (slot_in s q)) (eq-eqb (slot_in s q) empty (empty_root s 0 m q e)))
  empty_right s (suc h) m q e =
      parts s h m q (right_empty (slot_in s q) (slot_in s (q + m)) (slot_in s (q + 2 * m)) (empty_root s (suc h) m q e))
      (empty_right s h (2 * m) (q + m) (empty_a s h m q e))
      (empty_right s h (2 * m) (q + 2 * m) (empty_b s h m q e))

  pub right_agree : (s t : List ℕ) (h m q : ℕ) → ((k : ℕ) → slot_in s (q + k * m) ≡ slot_in t (q + k * m)) → right_below gates s h m q ≡ right_below gates t h m q
  unfolding right_below
  right_agree s t zero m q a = ap (λ (v : ℕ). eqb v empty || is_pin v) (at_start s t m q a)
  right_agree s t (suc h) m q a =
      let e : slot_in s q ≡ slot_in t q = at_start s t m q a in
      let ea : slot_in s (q + m) ≡ slot_in t (q + m) = at_start s t (2 * m) (q + m) (agree_a s t m q a) in
      let eb : slot_in s (q + 2 * m) ≡ slot_in t (q + 2 * m) = at_start s t (2 * m) (q + 2 * m) (agree_b s t m q a) in
      let x : stage_slot_right gates s m q ≡ stage_slot_right gates t m q =
      ap (λ (v : ℕ). stands_right gates v (slot_in s (q + m)) (slot_in s (q + 2 * m))) e
      ∙ ap₂ (λ (u : ℕ) (w : ℕ). stands_right gates (slot_in t q) u w) ea eb in
      let y = right_agree s t h (2 * m) (q + m) (agree_a s t m q a) in
      let z = right_agree s t h (2 * m) (q + 2 * m) (agree_b s t m q a) in
      ap₂ (λ (b : Bool) (c : Bool). b && c) (ap₂ (λ (b : Bool) (c : Bool). b && c) x y) z

-- ---- what is placed

module _ (gates levels : List ℕ) where
  pub root_holds : (s : List ℕ) (h m q x : ℕ) → Rooted (length s) h m q → slot_in (spots_stored s (placing gates levels h m q x)) q ≡ x
  unfolding placing
  root_holds s zero m q x r = rw (stored_one s q x) (slot_put s q x (rooted_positive (length s) 0 m q r) (rooted_inside (length s) 0 m q r))
  root_holds s (suc h) m q x r = go (eqb (node_level levels x) (suc h))
    where
      P : ℕ → ℕ → List Spot
      P i y = placing gates levels h (2 * m) i y

      both : (A B : List Spot) → Along (2 * m) (q + m) A → Along (2 * m) (q + 2 * m) B → slot_in (spots_stored s (spot q x ∷ (A ++ B))) q ≡ x
      both A B a b = rw (stored_both s q x A B) (half_root s h m q x A B r a b)

      go : (b : Bool)
          → slot_in (spots_stored s (spot q x ∷ elim b [ true ↦ P (q + m) (first_pin gates x) ++ P (q + 2 * m) (second_pin gates x) | false ↦ P (q + m) x ])) q ≡ x
      go true =
          both (P (q + m) (first_pin gates x)) (P (q + 2 * m) (second_pin gates x))
          (placing_along gates levels h (2 * m) (q + m) (first_pin gates x))
          (placing_along gates levels h (2 * m) (q + 2 * m) (second_pin gates x))
      go false = rw append-nil at (both (P (q + m) x) [] (placing_along gates levels h (2 * m) (q + m) x) along_none)

  -- both halves right, and the root over them
  halves-right : (s : List ℕ) (h m q x : ℕ) (A B : List Spot) → Rooted (length s) (suc h) m q → Along (2 * m) (q + m) A → Along (2 * m) (q + 2 * m) B
      → stands_right gates x (slot_in (a_put s q x A) (q + m)) (slot_in (b_put s q x A B) (q + 2 * m)) ≡ true
      → right_below gates (a_put s q x A) h (2 * m) (q + m) ≡ true → right_below gates (b_put s q x A B) h (2 * m) (q + 2 * m) ≡ true
      → right_below gates (spots_stored s (spot q x ∷ (A ++ B))) (suc h) m q ≡ true
  halves-right s h m q x A B r a b t u v =
      let T = b_put s q x A B in
      let keeps = half_a s h m q x A B r a b in
      let e : slot_in T q ≡ x = half_root s h m q x A B r a b in
      let f : slot_in T (q + m) ≡ slot_in (a_put s q x A) (q + m) = at_start T (a_put s q x A) (2 * m) (q + m) keeps in
      let w : stage_slot_right gates T m q ≡ true = ap₂ (λ (y : ℕ) (z : ℕ). stands_right gates y z (slot_in T (q + 2 * m))) e f ∙ t in
      let y : right_below gates T h (2 * m) (q + m) ≡ true = right_agree gates T (a_put s q x A) h (2 * m) (q + m) keeps ∙ u in
      rw (stored_both s q x A B) (parts gates T h m q w y v)

  module _ (good : bad_list gates ≡ none) where
    pub placed_right : (s : List ℕ) (h m q x : ℕ) → x ≤ 2 ^ 30 → Rooted (length s) h m q → empty_below s h m q ≡ true → no_gate gates levels h x ≡ false
        → right_below gates (spots_stored s (placing gates levels h m q x)) h m q ≡ true
    unfolding placing no_gate
    placed_right s zero m q x l r e n =
        let k : slot_in (set s (q - 1) x) q ≡ x = slot_put s q x (rooted_positive (length s) 0 m q r) (rooted_inside (length s) 0 m q r) in
        rw (stored_one s q x)
        (right_last gates (set s (q - 1) x) m q (rw k (ap (λ (t : Bool). eqb x empty || t) (pin-test gates x l) ∙ or-true (eqb x empty))))
    placed_right s (suc h) m q x l r e n =
        go (eqb (node_level levels x) (suc h)) (gate_in gates x) refl n
        (λ t y k f g z. placed_right t h (2 * m) (q + m) y k f g z)
        (λ t y k f g z. placed_right t h (2 * m) (q + 2 * m) y k f g z)
      where
        P : ℕ → ℕ → List Spot
        P i y = placing gates levels h (2 * m) i y

        N : ℕ → Bool
        N y = no_gate gates levels h y

        Half : ℕ → Type 0
        Half i = (t : List ℕ) (y : ℕ) → y ≤ 2 ^ 30 → Rooted (length t) h (2 * m) i → empty_below t h (2 * m) i ≡ true → N y ≡ false → right_below gates (spots_stored t (P i y)) h (2 * m) i ≡ true

        go : (b : Bool) (o : Option ℕ) → gate_in gates x ≡ o
            → (elim b [ true ↦ elim o [ none ↦ true | some g ↦ N (first_pin gates x) || N (second_pin gates x) ] | false ↦ N x ]) ≡ false → Half (q + m) → Half (q + 2 * m)
            → right_below gates (spots_stored s (spot q x ∷ elim b [ true ↦ P (q + m) (first_pin gates x) ++ P (q + 2 * m) (second_pin gates x) | false ↦ P (q + m) x ])) (suc h) m q ≡ true
        go true none k f u v = absurd (not_both true refl f)
        go true (some g) k f u v =
            let A = P (q + m) (first_pin gates x) in
            let B = P (q + 2 * m) (second_pin gates x) in
            let a : Along (2 * m) (q + m) A = placing_along gates levels h (2 * m) (q + m) (first_pin gates x) in
            let b : Along (2 * m) (q + 2 * m) B = placing_along gates levels h (2 * m) (q + 2 * m) (second_pin gates x) in
            let ra = root_rooted s h m q x A B r a b in
            let rb = a_rooted s h m q x A B r a b in
            let (na, nb) = or_parts (N (first_pin gates x)) (N (second_pin gates x)) f in
            halves-right s h m q x A B r a b
            (right_gate gates x _ _ g l k
            (root_holds (root_put s q x) h (2 * m) (q + m) (first_pin gates x) ra)
            (root_holds (a_put s q x A) h (2 * m) (q + 2 * m) (second_pin gates x) rb))
            (u (root_put s q x) (first_pin gates x) (first_pin_lem gates good x l) ra (half_empty_a s h m q x A B r a b e) na)
            (v (a_put s q x A) (second_pin gates x) (second_pin_lem gates good x l) rb (half_empty_b s h m q x A B r a b e) nb)
        go false o k f u v =
            let A = P (q + m) x in
            let a : Along (2 * m) (q + m) A = placing_along gates levels h (2 * m) (q + m) x in
            let ra = root_rooted s h m q x A [] r a along_none in
            let eb : empty_below (a_put s q x A) h (2 * m) (q + 2 * m) ≡ true = half_empty_b s h m q x A [] r a along_none e in
            let w = halves-right s h m q x A [] r a along_none
            (right_carried gates x _ _ l (root_holds (root_put s q x) h (2 * m) (q + m) x ra))
            (u (root_put s q x) x l ra (half_empty_a s h m q x A [] r a along_none e) f)
            (nothing_put gates (a_put s q x A) h (2 * m) (q + 2 * m) (empty_right gates (a_put s q x A) h (2 * m) (q + 2 * m) eb)) in
            rw append-nil at w
