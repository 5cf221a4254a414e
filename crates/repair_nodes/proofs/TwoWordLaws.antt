-- Laws of items of two words: how many there are, item i, one item more, and that the items of their words are the items.
-- Assumes nothing.
use mathlib.Core.Path.{◌≡◌, refl, ap, ap₂, ◌∙◌}
use mathlib.Core.List.{List, [], ◌∷◌, ◌++◌}
use Prim.Native.Nat.{ℕ, suc, ◌+◌, ◌*◌, ◌/◌, ◌≤◌, ◌<◌}
use native.Mathlib.Omega.{arith}
use lib.ListN.{length, get_or, take, drop, length-drop}
use lib.Seq.{sets, sets-eq, take-append_seam, drop-cons}
use Rattle.repair_nodes.specs.Pairs.{items_of_two, pair_words}

module _ {A : Type 0} (item : ℕ → ℕ → A) where
  pub pairs_length : (ws : List ℕ) → length (items_of_two item ws) ≡ length ws / 2
  unfolding items_of_two
  pairs_length [] = refl
  pairs_length (x ∷ []) = refl
  pairs_length (x ∷ (y ∷ ws)) = let e = pairs_length ws in omega arith

module _ {A : Type 0} (first second : A → ℕ) where
  pub words_length : (l : List A) → length (pair_words first second l) ≡ 2 * length l
  unfolding pair_words
  words_length [] = refl
  words_length (a ∷ l) = let e = words_length l in omega arith

  pub words_append : (k l : List A) → pair_words first second (k ++ l) ≡ pair_words first second k ++ pair_words first second l
  unfolding pair_words
  words_append [] l = refl
  words_append (a ∷ k) l = ap (λ (r : List ℕ). first a ∷ (second a ∷ r)) (words_append k l)

  pub pairs_words : (item : ℕ → ℕ → A) → ((a : A) → item (first a) (second a) ≡ a) → (l : List A) → items_of_two item (pair_words first second l) ≡ l
  unfolding items_of_two pair_words
  pairs_words item h [] = refl
  pairs_words item h (a ∷ l) = ap₂ (λ (b : A) (r : List A). b ∷ r) (h a) (pairs_words item h l)

-- what is stored from the start is found there
pub sets-front : (l vs : List ℕ) → length vs ≤ length l → take (length vs) (sets l 0 vs) ≡ vs
sets-front l vs h =
    let k : 0 + length vs ≤ length l = omega arith in
    rw (sets-eq vs l 0 k) (take-append_seam vs (drop (0 + length vs) l))

-- the items from item i on: the next one, and the rest
pub pairs_drop : {A : Type 0} (item : ℕ → ℕ → A) (ws : List ℕ) (i : ℕ) → 2 * i + 1 < length ws
    → items_of_two item (drop (2 * i) ws) ≡ item (get_or ws (2 * i) 0) (get_or ws (2 * i + 1) 0) ∷ items_of_two item (drop (2 * (i + 1)) ws)
unfolding items_of_two
pairs_drop item ws i l =
    let a : drop (2 * i) ws ≡ get_or ws (2 * i) 0 ∷ drop (suc (2 * i)) ws = drop-cons ws (2 * i) 0 (omega arith) in
    let e : suc (2 * i) ≡ 2 * i + 1 = omega arith in
    let f : suc (2 * i + 1) ≡ 2 * (i + 1) = omega arith in
    let b : drop (2 * i + 1) ws ≡ get_or ws (2 * i + 1) 0 ∷ drop (suc (2 * i + 1)) ws = drop-cons ws (2 * i + 1) 0 l in
    ap (items_of_two item) (a ∙ ap (λ (r : List ℕ). get_or ws (2 * i) 0 ∷ r) (ap (λ (n : ℕ). drop n ws) e ∙ b))
    ∙ ap (λ (n : ℕ). item (get_or ws (2 * i) 0) (get_or ws (2 * i + 1) 0) ∷ items_of_two item (drop n ws)) f

pub pairs_end : {A : Type 0} (item : ℕ → ℕ → A) (ws : List ℕ) (i : ℕ) → length ws ≤ 2 * i + 1 → items_of_two item (drop (2 * i) ws) ≡ []
unfolding items_of_two
pairs_end item ws i l = short_none (drop (2 * i) ws) (rw (length-drop (2 * i) ws) (omega arith))
  where
    short_none : (vs : List ℕ) → length vs ≤ 1 → items_of_two item vs ≡ []
    short_none [] h = refl
    short_none (x ∷ []) h = refl
    short_none (x ∷ (y ∷ vs)) h = absurd (omega arith)
