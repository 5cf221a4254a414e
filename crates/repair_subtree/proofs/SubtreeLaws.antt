-- Laws for the code over a subtree: the places below, one test more, a list that grows.
-- Assumes nothing.
use mathlib.Core.Path.{◌≡◌, refl, sym, ap, ap₂, ◌∙◌}
use mathlib.Core.Bool.{Bool, true, false, ◌&&◌, ◌||◌}
use mathlib.Core.List.{List, [], ◌∷◌, ◌++◌}
use Prim.Native.Nat.{ℕ, zero, suc, ◌+◌, ◌*◌, ◌-◌, ◌≤◌, ◌<◌}
use native.Mathlib.Nat.{not-suc-le-zero}
use native.Mathlib.Numerals.{add-one, sub-one}
use native.Mathlib.Omega.{arith}
use borrow.Author.Tests.{eq-eqb, ne_eqb}
use lib.ListN.{length, get_or, set, length-append, length-set, get_or-eq_default}
use lib.Seq.{sets}
use Rattle.words.proofs.ListLaws.{sets_append}
use Rattle.words.specs.Pins.{empty}
use Rattle.repair_nodes.specs.Stage.{Spot, spot, spot_words, Rooted, slot_in, empty_below}
use Rattle.repair_nodes.specs.Pairs.{pair_words}
use Rattle.repair_nodes.proofs.TwoWordLaws.{words_length, words_append}
use Rattle.repair_nodes.proofs.PlacingLaws.{rooted_a, rooted_b, rooted_inside}
use Rattle.repair_subtree.specs.Subtree.{judgement_of, worse_of, FirstBelow, SecondBelow, Added}
use Rattle.repair_subtree.specs.declared.places.Place.{Place}

-- ---- places

pub below_a : (h m q : ℕ) → 0 < h → Rooted 16383 h m q → Rooted 16383 (h - 1) (2 * m) (q + m)
below_a zero m q p r = absurd (not-suc-le-zero p)
below_a (suc h) m q p r = rw sub-one (rooted_a 16383 h m q r)

pub below_b : (h m q : ℕ) → 0 < h → Rooted 16383 h m q → Rooted 16383 (h - 1) (2 * m) (q + 2 * m)
below_b zero m q p r = absurd (not-suc-le-zero p)
below_b (suc h) m q p r = rw sub-one (rooted_b 16383 h m q r)

-- an index is below 2^14, and so is the one on the other side below it
pub index_small : (h m q : ℕ) → Rooted 16383 h m q → q < 16384
index_small h m q r = omega (arith, rooted_inside 16383 h m q r)

pub below_small : (h m q : ℕ) → 0 < h → Rooted 16383 h m q → q + 2 * m < 16384
below_small h m q p r = index_small (h - 1) (2 * m) (q + 2 * m) (below_b h m q p r)

-- ---- a slot

pub slot_here : (s : List ℕ) (q : ℕ) → 0 < q → q ≤ length s → get_or s (q - 1) 0 ≡ slot_in s q
slot_here s q p l = same_word s (q - 1) 0 empty (omega arith)
  where
    same_word : (s : List ℕ) (i d e : ℕ) → i < length s → get_or s i d ≡ get_or s i e
    same_word [] i d e l = absurd (omega arith)
    same_word (x ∷ s) zero d e l = refl
    same_word (x ∷ s) (suc i) d e l = same_word s i d e (omega arith)

pub slot_past : (s : List ℕ) (q : ℕ) → length s < q → empty ≡ slot_in s q
slot_past s q l = let k : length s ≤ q - 1 = omega arith in sym (get_or-eq_default s empty k)

-- ---- an empty subtree

pub empty_not : (s : List ℕ) (h m q : ℕ) → (slot_in s q ≡ empty → ⊥) → empty_below s h m q ≡ false
unfolding empty_below
empty_not s zero m q n = ne_eqb (slot_in s q) empty n
empty_not s (suc h) m q n = rw (ne_eqb (slot_in s q) empty n)

pub empty_last : (s : List ℕ) (h m q : ℕ) → h ≡ 0 → slot_in s q ≡ empty → empty_below s h m q ≡ true
unfolding empty_below
empty_last s zero m q z e = eq-eqb (slot_in s q) empty e
empty_last s (suc h) m q z e = absurd (omega arith)

pub empty_step : (s : List ℕ) (h m q : ℕ) → 0 < h → slot_in s q ≡ empty
    → empty_below s h m q ≡ (empty_below s (h - 1) (2 * m) (q + m) && empty_below s (h - 1) (2 * m) (q + 2 * m))
unfolding empty_below
empty_step s zero m q p e = absurd (not-suc-le-zero p)
empty_step s (suc h) m q p e = rw (eq-eqb (slot_in s q) empty e, sub-one)

-- ---- the judgement of two fan-ins

pub worse_is : (a b c d : Bool) → judgement_of (a || b) (c || d) ≡ worse_of (judgement_of a c) (judgement_of b d)
worse_is true b c d = refl
worse_is false true true d = refl
worse_is false true false d = refl
worse_is false false true true = refl
worse_is false false true false = refl
worse_is false false false true = refl
worse_is false false false false = refl

-- ---- a list that grows

pub added_one : (l : List ℕ) (n q x : ℕ) (l₁ l₂ : List ℕ) → l₁ ≡ set l (2 * n) q → l₂ ≡ set l₁ (2 * n + 1) x → Added l n (spot q x ∷ []) l₂ (n + 1)
unfolding pair_words
added_one l n q x l₁ l₂ e f =
    record {
      count = omega arith;
      words = f ∙ rw (e, add-one (2 * n));
      size = ap length f ∙ (length-set l₁ (2 * n + 1) x ∙ (ap length e ∙ length-set l (2 * n) q));
    }

pub added_none : (l : List ℕ) (n : ℕ) → Added l n [] l n
unfolding pair_words
added_none l n = record { count = omega arith; words = refl; size = refl }

pub added_on : (l l₁ l₂ : List ℕ) (n k j : ℕ) (es fs : List Spot) → Added l n es l₁ k → Added l₁ k fs l₂ j → Added l n (es ++ fs) l₂ j
added_on l l₁ l₂ n k j es fs a b =
    let c : k ≡ n + length es = a.count in
    let e : length (es ++ fs) ≡ length es + length fs = length-append es fs in
    let w : length (spot_words es) ≡ 2 * length es = words_length (λ (s : Spot). s.at) (λ (s : Spot). s.node) es in
    let i : 2 * n + length (spot_words es) ≡ 2 * k = omega arith in
    let p : sets l (2 * n) (spot_words es ++ spot_words fs) ≡ sets (sets l (2 * n) (spot_words es)) (2 * k) (spot_words fs) =
    sets_append l (2 * n) (spot_words es) (spot_words fs) ∙ ap (λ (v : ℕ). sets (sets l (2 * n) (spot_words es)) v (spot_words fs)) i in
    record {
      count = omega (arith, b.count);
      words =
          b.words
          ∙ (ap (λ (v : List ℕ). sets v (2 * k) (spot_words fs)) a.words
          ∙ (sym p ∙ ap (λ (v : List ℕ). sets l (2 * n) v) (sym (words_append (λ (s : Spot). s.at) (λ (s : Spot). s.node) es fs))));
      size = b.size ∙ a.size;
    }

pub added_is : (l l₁ l₂ : List ℕ) (n k j : ℕ) (es : List Spot) → Added l n es l₁ k → l₂ ≡ l₁ → j ≡ k → Added l n es l₂ j
added_is l l₁ l₂ n k j es a e f = record { count = f ∙ a.count; words = e ∙ a.words; size = ap length e ∙ a.size }

-- ---- an empty subtree, by the two places below

module _ (s : List ℕ) (h m q : ℕ) (pos : 0 < h) (e : slot_in s q ≡ empty) (p r : Place) (b : FirstBelow h m q p) (d : SecondBelow h m q r) where
  abbrev empty_at : Place → Bool
  empty_at o = empty_below s o.level o.width o.index

  parts : empty_below s h m q ≡ (empty_at p && empty_at r)
  parts =
      let u : empty_below s (h - 1) (2 * m) (q + m) ≡ empty_at p =
      ap₂ (λ (i : ℕ) (j : ℕ). empty_below s i j (q + m)) (sym b.level) (sym b.width) ∙ ap (λ (i : ℕ). empty_below s p.level p.width i) (sym b.index) in
      let v : empty_below s (h - 1) (2 * m) (q + 2 * m) ≡ empty_at r =
      ap₂ (λ (i : ℕ) (j : ℕ). empty_below s i j (q + 2 * m)) (sym d.level) (sym d.width) ∙ ap (λ (i : ℕ). empty_below s r.level r.width i) (sym d.index) in
      empty_step s h m q pos e ∙ ap₂ (λ (i : Bool) (j : Bool). i && j) u v

  pub empty_on : (x y : Bool) → x ≡ empty_below s p.level p.width p.index → x ≡ true → y ≡ empty_below s r.level r.width r.index
      → y ≡ empty_below s h m q
  empty_on x y f t g = g ∙ sym (parts ∙ ap (λ (i : Bool). i && empty_at r) (sym f ∙ t))

pub empty_off : (s : List ℕ) (h m q : ℕ) → 0 < h → slot_in s q ≡ empty → (p : Place) → FirstBelow h m q p → (x : Bool)
    → x ≡ empty_below s p.level p.width p.index → x ≡ false → false ≡ empty_below s h m q
empty_off s h m q pos e p b x f t =
    let u : empty_below s (h - 1) (2 * m) (q + m) ≡ empty_below s p.level p.width p.index =
    ap₂ (λ (i : ℕ) (j : ℕ). empty_below s i j (q + m)) (sym b.level) (sym b.width) ∙ ap (λ (i : ℕ). empty_below s p.level p.width i) (sym b.index) in
    sym (empty_step s h m q pos e ∙ ap (λ (i : Bool). i && empty_below s (h - 1) (2 * m) (q + 2 * m)) (u ∙ (sym f ∙ t)))
