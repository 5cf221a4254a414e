-- "If the subtree was empty, placing and then clearing gives back the same slots": what clearing reaches after a placing is what was placed, in the same
-- order; and emptying those slots gives back the slots before. By induction on the level: a half's slots are off the other half's row.
-- Assumes nothing.
use mathlib.Core.Path.{◌≡◌, refl, sym, ap, ap₂, ◌∙◌}
use mathlib.Core.Bool.{Bool, true, false}
use mathlib.Core.Option.{none}
use mathlib.Core.List.{List, [], ◌∷◌, ◌++◌, append-nil}
use Prim.Native.Nat.{ℕ, zero, suc, ◌+◌, ◌*◌, ◌-◌, ◌≤◌, ◌<◌}
use native.Mathlib.Nat.{not-suc-le-zero}
use native.Mathlib.Numerals.{sub-one}
use native.Mathlib.Omega.{arith}
use borrow.Author.Tests.{eq-eqb, ne_eqb, eqb-true, eqb-false}
use lib.Dec.{eqb}
use lib.ListN.{length, set, length-set}
use lib.Seq.{ext_get_or}
use Rattle.words.specs.Pins.{empty}
use Rattle.gatelist.specs.ListWords.{bad_list}
use Rattle.repair_nodes.specs.Stage.{Spot, spot, Rooted, slot_in, spots_stored, emptied, empty_below}
use Rattle.repair_nodes.specs.Placing.{node_level, first_pin, second_pin, placing}
use Rattle.repair_nodes.specs.Clearing.{clearing}
use Rattle.repair_nodes.proofs.StageFrameLaws.{Along, along_none, a_off_b, b_off_a, a_off_root, b_off_root, spots_length, stored_append, slot_put, slot_kept, stored_off, clearing_agree, empty_agree}
use Rattle.repair_nodes.proofs.PlacingLaws.{rooted_a, rooted_b, rooted_inside, rooted_positive, placing_along, first_pin_lem, second_pin_lem, empty_root, empty_a, empty_b}

-- ---- clearing, by what stands in the slot

pub clearing_none : (s : List ℕ) (h m q : ℕ) → slot_in s q ≡ empty → clearing s h m q ≡ []
unfolding clearing
clearing_none s zero m q e = rw (eq-eqb (slot_in s q) empty e, clearing)
clearing_none s (suc h) m q e = rw (eq-eqb (slot_in s q) empty e, clearing)

pub clearing_last : (s : List ℕ) (m q v : ℕ) → slot_in s q ≡ v → (v ≡ empty → ⊥) → clearing s 0 m q ≡ spot q v ∷ []
unfolding clearing
clearing_last s m q v e n = rw (ne_eqb (slot_in s q) empty (λ (k : slot_in s q ≡ empty). n (sym e ∙ k)), clearing) (ap (λ (x : ℕ). spot q x ∷ []) e)

pub clearing_both : (s : List ℕ) (h m q v : ℕ) → slot_in s q ≡ v → (v ≡ empty → ⊥)
    → clearing s (suc h) m q ≡ spot q v ∷ (clearing s h (2 * m) (q + m) ++ clearing s h (2 * m) (q + 2 * m))
unfolding clearing
clearing_both s h m q v e n =
    rw (ne_eqb (slot_in s q) empty (λ (k : slot_in s q ≡ empty). n (sym e ∙ k)), clearing)
    (ap (λ (x : ℕ). spot q x ∷ (clearing s h (2 * m) (q + m) ++ clearing s h (2 * m) (q + 2 * m))) e)

-- in the code's terms
pub clearing_end : (s : List ℕ) (h m q v : ℕ) → h ≡ 0 → slot_in s q ≡ v → (v ≡ empty → ⊥) → clearing s h m q ≡ spot q v ∷ []
clearing_end s zero m q v z e n = clearing_last s m q v e n
clearing_end s (suc h) m q v z e n = absurd (omega arith)

pub clearing_step : (s : List ℕ) (h m q v : ℕ) → 0 < h → slot_in s q ≡ v → (v ≡ empty → ⊥)
    → clearing s h m q ≡ spot q v ∷ (clearing s (h - 1) (2 * m) (q + m) ++ clearing s (h - 1) (2 * m) (q + 2 * m))
clearing_step s zero m q v p e n = absurd (not-suc-le-zero p)
clearing_step s (suc h) m q v p e n = rw sub-one (clearing_both s h m q v e n)

pub clearing_some : (s : List ℕ) (h m q v : ℕ) → slot_in s q ≡ v → (v ≡ empty → ⊥) → 0 < length (clearing s h m q)
clearing_some s zero m q v e n = rw (clearing_last s m q v e n) (omega arith)
clearing_some s (suc h) m q v e n = rw (clearing_both s h m q v e n) (omega arith)

-- ---- both halves of a place: A is put below on one side, B on the other

-- the slots after the root, after A and after B
abbrev pub root_put : List ℕ → ℕ → ℕ → List ℕ
root_put s q x = set s (q - 1) x

abbrev pub a_put : List ℕ → ℕ → ℕ → List Spot → List ℕ
a_put s q x A = spots_stored (root_put s q x) A

abbrev pub b_put : List ℕ → ℕ → ℕ → List Spot → List Spot → List ℕ
b_put s q x A B = spots_stored (a_put s q x A) B

pub stored_both : (s : List ℕ) (q x : ℕ) (A B : List Spot) → spots_stored s (spot q x ∷ (A ++ B)) ≡ b_put s q x A B
unfolding spots_stored
stored_both s q x A B = stored_append (root_put s q x) A B

module _ (s : List ℕ) (h m q x : ℕ) (A B : List Spot) (r : Rooted (length s) (suc h) m q) (a : Along (2 * m) (q + m) A) (b : Along (2 * m) (q + 2 * m) B) where
  positive : 0 < q
  positive = rooted_positive (length s) (suc h) m q r

  root-keeps : (i : ℕ) → q < i → slot_in (root_put s q x) i ≡ slot_in s i
  root-keeps i l = slot_kept s q i x positive (omega arith) (λ (e : i ≡ q). omega arith)

  pub half_root : slot_in (b_put s q x A B) q ≡ x
  half_root =
      let p : 0 < q = positive in
      let u : slot_in (b_put s q x A B) q ≡ slot_in (a_put s q x A) q = stored_off b (a_put s q x A) q (omega arith) p (b_off_root m q r.wide) in
      let v : slot_in (a_put s q x A) q ≡ slot_in (root_put s q x) q = stored_off a (root_put s q x) q (omega arith) p (a_off_root m q r.wide) in
      u ∙ (v ∙ slot_put s q x p (rooted_inside (length s) (suc h) m q r))

  pub half_a : (k : ℕ) → slot_in (b_put s q x A B) (q + m + k * (2 * m)) ≡ slot_in (a_put s q x A) (q + m + k * (2 * m))
  half_a k =
      let p : 0 < q = positive in
      stored_off b (a_put s q x A) (q + m + k * (2 * m)) (omega arith) (omega arith) (b_off_a m q r.wide k)

  half-b : (k : ℕ) → slot_in (a_put s q x A) (q + 2 * m + k * (2 * m)) ≡ slot_in s (q + 2 * m + k * (2 * m))
  half-b k =
      let p : 0 < q = positive in
      let w : 0 < m = r.wide in
      stored_off a (root_put s q x) (q + 2 * m + k * (2 * m)) (omega arith) (omega arith) (a_off_b m q w k)
      ∙ root-keeps (q + 2 * m + k * (2 * m)) (omega arith)

  root-a : (k : ℕ) → slot_in (root_put s q x) (q + m + k * (2 * m)) ≡ slot_in s (q + m + k * (2 * m))
  root-a k = let w : 0 < m = r.wide in root-keeps (q + m + k * (2 * m)) (omega arith)

  pub half_empty_a : empty_below s (suc h) m q ≡ true → empty_below (root_put s q x) h (2 * m) (q + m) ≡ true
  half_empty_a e = empty_agree (root_put s q x) s h (2 * m) (q + m) root-a ∙ empty_a s h m q e

  pub half_empty_b : empty_below s (suc h) m q ≡ true → empty_below (a_put s q x A) h (2 * m) (q + 2 * m) ≡ true
  half_empty_b e = empty_agree (a_put s q x A) s h (2 * m) (q + 2 * m) half-b ∙ empty_b s h m q e

  pub root_rooted : Rooted (length (root_put s q x)) h (2 * m) (q + m)
  root_rooted = rw (length-set s (q - 1) x) (rooted_a (length s) h m q r)

  pub a_rooted : Rooted (length (a_put s q x A)) h (2 * m) (q + 2 * m)
  a_rooted = rw (spots_length (root_put s q x) A, length-set s (q - 1) x) (rooted_b (length s) h m q r)

  pub halves_reached : (x ≡ empty → ⊥) → clearing (a_put s q x A) h (2 * m) (q + m) ≡ A → clearing (b_put s q x A B) h (2 * m) (q + 2 * m) ≡ B
      → clearing (spots_stored s (spot q x ∷ (A ++ B))) (suc h) m q ≡ spot q x ∷ (A ++ B)
  halves_reached n u v =
      let ca : clearing (b_put s q x A B) h (2 * m) (q + m) ≡ A = clearing_agree (b_put s q x A B) (a_put s q x A) h (2 * m) (q + m) half_a ∙ u in
      rw (stored_both s q x A B)
      (clearing_both (b_put s q x A B) h m q x half_root n ∙ ap₂ (λ (y : List Spot) (z : List Spot). spot q x ∷ (y ++ z)) ca v)

-- ---- reached is placed

not_empty : (x : ℕ) → x ≤ 1073741824 → x ≡ empty → ⊥
not_empty x h e = omega arith

stored_nil : (s : List ℕ) (h m q : ℕ) → slot_in s (q + 2 * m) ≡ empty → clearing (spots_stored s []) h (2 * m) (q + 2 * m) ≡ []
unfolding spots_stored
stored_nil s h m q e = clearing_none s h (2 * m) (q + 2 * m) e

pub stored_one : (s : List ℕ) (q x : ℕ) → spots_stored s (spot q x ∷ []) ≡ set s (q - 1) x
unfolding spots_stored
stored_one s q x = refl

module _ (gates levels : List ℕ) (good : bad_list gates ≡ none) where
  pub reached : (s : List ℕ) (h m q x : ℕ) → x ≤ 1073741824 → Rooted (length s) h m q → empty_below s h m q ≡ true
      → clearing (spots_stored s (placing gates levels h m q x)) h m q ≡ placing gates levels h m q x
  unfolding placing
  reached s zero m q x l r e =
      let t : spots_stored s (spot q x ∷ []) ≡ set s (q - 1) x = stored_one s q x in
      let k : slot_in (set s (q - 1) x) q ≡ x = slot_put s q x (rooted_positive (length s) 0 m q r) (rooted_inside (length s) 0 m q r) in
      rw t (clearing_last (set s (q - 1) x) m q x k (not_empty x l))
  reached s (suc h) m q x l r e =
      go (eqb (node_level levels x) (suc h))
      (λ t y k f g. reached t h (2 * m) (q + m) y k f g)
      (λ t y k f g. reached t h (2 * m) (q + 2 * m) y k f g)
    where
      P : ℕ → ℕ → List Spot
      P i y = placing gates levels h (2 * m) i y

      Half : ℕ → Type 0
      Half i = (t : List ℕ) (y : ℕ) → y ≤ 1073741824 → Rooted (length t) h (2 * m) i → empty_below t h (2 * m) i ≡ true → clearing (spots_stored t (P i y)) h (2 * m) i ≡ P i y

      go : (b : Bool) → Half (q + m) → Half (q + 2 * m)
          → clearing (spots_stored s (spot q x ∷ elim b [ true ↦ P (q + m) (first_pin gates x) ++ P (q + 2 * m) (second_pin gates x) | false ↦ P (q + m) x ])) (suc h) m q
          ≡ spot q x ∷ elim b [ true ↦ P (q + m) (first_pin gates x) ++ P (q + 2 * m) (second_pin gates x) | false ↦ P (q + m) x ]
      go true u v =
          let A = P (q + m) (first_pin gates x) in
          let B = P (q + 2 * m) (second_pin gates x) in
          let a : Along (2 * m) (q + m) A = placing_along gates levels h (2 * m) (q + m) (first_pin gates x) in
          let b : Along (2 * m) (q + 2 * m) B = placing_along gates levels h (2 * m) (q + 2 * m) (second_pin gates x) in
          halves_reached s h m q x A B r a b (not_empty x l)
          (u (root_put s q x) (first_pin gates x) (first_pin_lem gates good x l) (root_rooted s h m q x A B r a b) (half_empty_a s h m q x A B r a b e))
          (v (a_put s q x A) (second_pin gates x) (second_pin_lem gates good x l) (a_rooted s h m q x A B r a b) (half_empty_b s h m q x A B r a b e))
      go false u v =
          let A = P (q + m) x in
          let a : Along (2 * m) (q + m) A = placing_along gates levels h (2 * m) (q + m) x in
          let f : empty_below (a_put s q x A) h (2 * m) (q + 2 * m) ≡ true = half_empty_b s h m q x A [] r a along_none e in
          let w : clearing (spots_stored s (spot q x ∷ (A ++ []))) (suc h) m q ≡ spot q x ∷ (A ++ []) =
          halves_reached s h m q x A [] r a along_none (not_empty x l)
          (u (root_put s q x) x l (root_rooted s h m q x A [] r a along_none) (half_empty_a s h m q x A [] r a along_none e))
          (stored_nil (a_put s q x A) h m q (empty_root (a_put s q x A) h (2 * m) (q + 2 * m) f)) in
          rw append-nil at w

-- ---- the same slots

-- each spot is inside the stage and was empty
pub data Vacant (s : List ℕ) : List Spot → Type 0 where
  vacant_none : Vacant s []
  vacant_more : {e : Spot} {es : List Spot} → 0 < e.at → e.at ≤ length s → slot_in s e.at ≡ empty → Vacant s es → Vacant s (e ∷ es)

vacant_append : {s : List ℕ} {es fs : List Spot} → Vacant s es → Vacant s fs → Vacant s (es ++ fs)
vacant_append vacant_none b = b
vacant_append (vacant_more p l h a) b = vacant_more p l h (vacant_append a b)

module _ (gates levels : List ℕ) where
  pub placing_vacant : (s : List ℕ) (h m q x : ℕ) → Rooted (length s) h m q → empty_below s h m q ≡ true → Vacant s (placing gates levels h m q x)
  unfolding placing
  placing_vacant s zero m q x r e = vacant_more (rooted_positive (length s) 0 m q r) (rooted_inside (length s) 0 m q r) (empty_root s 0 m q e) vacant_none
  placing_vacant s (suc h) m q x r e =
      vacant_more (rooted_positive (length s) (suc h) m q r) (rooted_inside (length s) (suc h) m q r) (empty_root s (suc h) m q e)
      (go (eqb (node_level levels x) (suc h))
      (placing_vacant s h (2 * m) (q + m) (first_pin gates x) (rooted_a (length s) h m q r) (empty_a s h m q e))
      (placing_vacant s h (2 * m) (q + 2 * m) (second_pin gates x) (rooted_b (length s) h m q r) (empty_b s h m q e))
      (placing_vacant s h (2 * m) (q + m) x (rooted_a (length s) h m q r) (empty_a s h m q e)))
    where
      go : {A B C : List Spot} (b : Bool) → Vacant s A → Vacant s B → Vacant s C → Vacant s (elim b [ true ↦ A ++ B | false ↦ C ])
      go true a b c = vacant_append a b
      go false a b c = c

-- index i is none of the spots'
data Out (i : ℕ) : List Spot → Type 0 where
  out_none : Out i []
  out_more : {e : Spot} {es : List Spot} → (i ≡ e.at → ⊥) → Out i es → Out i (e ∷ es)

-- t has what s has but at the spots, which were empty in s: emptied, t is s
emptied_back : (s t : List ℕ) (es : List Spot) → length t ≡ length s → Vacant s es
    → ((i : ℕ) → 0 < i → Out i es → slot_in t i ≡ slot_in s i) → spots_stored t (emptied es) ≡ s
unfolding spots_stored emptied
emptied_back s t [] l v h =
    ext_get_or empty t s l
    (λ i k.
    let e : slot_in t (i + 1) ≡ slot_in s (i + 1) = h (i + 1) (omega arith) out_none in
    let n : i + 1 - 1 ≡ i = omega arith in
    rw n at e)
emptied_back s t (e ∷ es) l (vacant_more p k o v) h =
    emptied_back s (set t (e.at - 1) empty) es (length-set t (e.at - 1) empty ∙ l) v
    (λ i r w. go i r w (eqb i e.at) refl)
  where
    go : (i : ℕ) → 0 < i → Out i es → (b : Bool) → eqb i e.at ≡ b → slot_in (set t (e.at - 1) empty) i ≡ slot_in s i
    go i r w true z =
        let n : i ≡ e.at = eqb-true i e.at z in
        let k' : e.at ≤ length t = omega arith in
        ap (λ (c : ℕ). slot_in (set t (e.at - 1) empty) c) n ∙ (slot_put t e.at empty p k' ∙ (sym o ∙ ap (λ (c : ℕ). slot_in s c) (sym n)))
    go i r w false z =
        let n : i ≡ e.at → ⊥ = eqb-false i e.at z in
        slot_kept t e.at i empty p r n ∙ h i r (out_more n w)

stored_out : {s : List ℕ} {es : List Spot} → Vacant s es → (t : List ℕ) (i : ℕ) → 0 < i → Out i es → slot_in (spots_stored t es) i ≡ slot_in t i
unfolding spots_stored
stored_out vacant_none t i r out_none = refl
stored_out (vacant_more {e} {es} p k o v) t i r (out_more n w) =
    stored_out v (set t (e.at - 1) e.node) i r w ∙ slot_kept t e.at i e.node p r n

pub placed_back : (s : List ℕ) (es : List Spot) → Vacant s es → spots_stored (spots_stored s es) (emptied es) ≡ s
placed_back s es v = emptied_back s (spots_stored s es) es (spots_length s es) v (λ i r w. stored_out v s i r w)
