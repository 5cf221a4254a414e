-- The form, pair by pair, over the words that are left: pair i and those after it are the pairs from i of the words from 2i.
-- Assumes nothing.
use mathlib.Core.Path.{◌≡◌, refl, ap, ◌∙◌}
use mathlib.Core.Bool.{Bool, true, false, ◌&&◌}
use mathlib.Core.Option.{Option, none, some}
use mathlib.Core.List.{List, [], ◌∷◌}
use Prim.Native.Nat.{ℕ, suc, ◌+◌, ◌*◌, ◌/◌, ◌%◌, ◌^◌, ◌≤◌, ◌<◌}
use native.Mathlib.Omega.{arith}
use borrow.Author.Tests.{le-leb, lt-leb, lt-ltb, le-ltb}
use lib.Dec.{leb, ltb}
use lib.ListN.{length, get_or, drop, drop_of_length-le}
use lib.Seq.{drop-cons}
use Rattle.words.specs.Bit.{pop}
use Rattle.words.proofs.PopLaws.{pop_some}
use Rattle.reads.specs.ReadSet.{pairs_from, pairs_of, pair_form, broken_from, broken}
use Rattle.reads.proofs.SetLaws.{times_at, mask_some}
use Rattle.reads_try.specs.TableLanes.{pair_at}
use Rattle.reads_try.proofs.SetPairLaws.{pairs_length, pairs_at}

module _ (ws : List ℕ) (i : ℕ) where
  -- what is left from pair i on breaks the form there, with words from `low` on
  abbrev pub brokenAt : ℕ → Option ℕ
  brokenAt low = broken_from low (pairs_from i (drop (2 * i) ws))

next_pair : (ws : List ℕ) (i : ℕ) → 2 * i + 1 < length ws
    → pairs_from i (drop (2 * i) ws) ≡ record { at = i; word = get_or ws (2 * i) 0; mask = get_or ws (2 * i + 1) 0 } ∷ pairs_from (i + 1) (drop (2 * (i + 1)) ws)
unfolding pairs_from
next_pair ws i h =
    let a : 2 * (i + 1) ≡ suc (suc (2 * i)) = omega arith in
    let b : 2 * i + 1 ≡ suc (2 * i) = omega arith in
    rw (a, b, drop-cons ws (2 * i) 0 (omega arith), drop-cons ws (suc (2 * i)) 0 (omega arith))

half_pair : (ws : List ℕ) (i : ℕ) → 2 * i + 1 ≡ length ws → pairs_from i (drop (2 * i) ws) ≡ record { at = i; word = get_or ws (2 * i) 0; mask = 0 } ∷ []
unfolding pairs_from
half_pair ws i h =
    let q : length ws ≤ suc (2 * i) = omega arith in
    rw (drop-cons ws (2 * i) 0 (omega arith), drop_of_length-le ws q)

module _ (ws : List ℕ) (i low : ℕ) (h : 2 * i + 1 < length ws) where
  pub bad_low : get_or ws (2 * i) 0 < low → brokenAt ws i low ≡ some i
  unfolding broken_from
  bad_low l = ap (broken_from low) (next_pair ws i h) ∙ rw (lt-leb _ _ l, broken_from)

  pub bad_word : low ≤ get_or ws (2 * i) 0 → 2 ^ 27 ≤ get_or ws (2 * i) 0 % 2 ^ 31 → brokenAt ws i low ≡ some i
  unfolding broken_from pair_form
  bad_word l w = ap (broken_from low) (next_pair ws i h) ∙ rw (le-leb _ _ l, le-ltb _ _ w, broken_from)

  pub bad_mask : low ≤ get_or ws (2 * i) 0 → get_or ws (2 * i) 0 % 2 ^ 31 < 2 ^ 27 → get_or ws (2 * i + 1) 0 ≡ 0 → brokenAt ws i low ≡ some i
  unfolding broken_from pair_form
  bad_mask l w m = ap (broken_from low) (next_pair ws i h) ∙ rw (le-leb _ _ l, lt-ltb _ _ w, m, broken_from)

  pub good_pair : low ≤ get_or ws (2 * i) 0 → get_or ws (2 * i) 0 % 2 ^ 31 < 2 ^ 27 → 0 < get_or ws (2 * i + 1) 0
      → brokenAt ws i low ≡ brokenAt ws (i + 1) (get_or ws (2 * i) 0 + 1)
  unfolding broken_from pair_form
  good_pair l w m = ap (broken_from low) (next_pair ws i h) ∙ rw (le-leb _ _ l, lt-ltb _ _ w, lt-ltb _ _ m, broken_from)

-- a half pair breaks the form, whatever its word
pub bad_half : (ws : List ℕ) (i low : ℕ) → 2 * i + 1 ≡ length ws → brokenAt ws i low ≡ some i
unfolding broken_from pair_form
bad_half ws i low h = ap (broken_from low) (half_pair ws i h) ∙ go (leb low (get_or ws (2 * i) 0)) (ltb (get_or ws (2 * i) 0 % 2 ^ 31) (2 ^ 27))
  where
    go : (a b : Bool) → elim (a && (b && false)) [ true ↦ none | false ↦ some i ] ≡ some i
    go true true = refl
    go true false = refl
    go false b = refl

pub good_end : (ws : List ℕ) (i low : ℕ) → length ws ≤ 2 * i → brokenAt ws i low ≡ none
unfolding broken_from pairs_from
good_end ws i low h = let q : length ws ≤ 2 * i = h in rw (drop_of_length-le ws q)

-- ---- what the form gives

whole_from : (i low : ℕ) (ws : List ℕ) → broken_from low (pairs_from i ws) ≡ none → length ws % 2 ≡ 0
unfolding pairs_from broken_from pair_form
whole_from i low [] e = refl
whole_from i low (w ∷ []) e = go (leb low w) (ltb (w % 2 ^ 31) (2 ^ 27)) e
  where
    go : (a b : Bool) → ◌≡◌ {A = Option ℕ} (elim (a && (b && false)) [ true ↦ none | false ↦ some i ]) none → 1 % 2 ≡ 0
    go true true e = let z : ◌≡◌ {A = ℕ} 0 1 = cc in absurd (omega arith)
    go true false e = let z : ◌≡◌ {A = ℕ} 0 1 = cc in absurd (omega arith)
    go false b e = let z : ◌≡◌ {A = ℕ} 0 1 = cc in absurd (omega arith)
whole_from i low (w ∷ m ∷ ws) e = go (leb low w && (ltb (w % 2 ^ 31) (2 ^ 27) && ltb 0 m)) e (whole_from (i + 1) (w + 1) ws)
  where
    go : (a : Bool) → ◌≡◌ {A = Option ℕ} (elim a [ true ↦ broken_from (w + 1) (pairs_from (i + 1) ws) | false ↦ some i ]) none
        → (broken_from (w + 1) (pairs_from (i + 1) ws) ≡ none → length ws % 2 ≡ 0) → suc (suc (length ws)) % 2 ≡ 0
    go true e r = omega (arith, r e)
    go false e r = let z : ◌≡◌ {A = ℕ} 0 1 = cc in absurd (omega arith)

module _ (ws : List ℕ) (form : broken (pairs_of ws) ≡ none) where
  -- no half pair
  pub form_whole : length ws % 2 ≡ 0
  form_whole = whole_from 0 0 ws form

  -- no mask without a bit
  pub form_masks : ((x : ℕ) → get_or ws x 0 < 2 ^ 32) → (p : ℕ) → p < length ws / 2 → 0 < pop (get_or ws (2 * p + 1) 0)
  form_masks small p h =
      let at : get_or (pairs_of ws) p (pair_at ws 0) ≡ pair_at ws p = pairs_at ws p (pair_at ws 0) h in
      let some-times = rw at at (times_at (pairs_of ws) p (pair_at ws 0) (omega (arith, pairs_length 0 ws))) in
      pop_some (get_or ws (2 * p + 1) 0) (small (2 * p + 1)) (mask_some (pairs_of ws) form _ _ some-times)
