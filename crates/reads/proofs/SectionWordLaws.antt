-- The words of the read section, each by its lane and round.
-- Assumes nothing.
use mathlib.Core.Path.{◌≡◌, refl, sym, ap, ◌∙◌}
use mathlib.Core.List.{List, [], ◌∷◌}
use mathlib.Core.Logic.{⊎_elim}
use Prim.Native.Nat.{ℕ, zero, suc, ◌+◌, ◌*◌, ◌≤◌, ◌<◌}
use native.Mathlib.Nat.{add-zero, zero-add, not-suc-le-zero, mul-suc, mul-le-mul_left, le_of_suc-le-suc}
use native.Mathlib.Omega.{arith}
use lib.ListN.{length, get_or, length-append, get_or-append, get_or-eq_default}
use lib.Seq.{get_or-append-add}
use Rattle.words.proofs.BitLaws.{lt_or_ge}
use Rattle.reads.specs.Search.{Lane, longest}
use Rattle.reads.specs.ReadSection.{lane_round_words, round_words, rounds_from, read_section}
use Rattle.reads.specs.Local.{word_in, mask_in}
use Rattle.reads.proofs.RoundCountLaws.{longest_ge}

-- past its end a lane has zeros
pub word_none : (l : Lane) (r : ℕ) → length l ≤ r → word_in l r ≡ 0
unfolding word_in
word_none [] r h = refl
word_none (p ∷ l) zero h = absurd (not-suc-le-zero h)
word_none (p ∷ l) (suc r) h = word_none l r (le_of_suc-le-suc h)

pub mask_none : (l : Lane) (r : ℕ) → length l ≤ r → mask_in l r ≡ 0
unfolding mask_in
mask_none [] r h = refl
mask_none (p ∷ l) zero h = absurd (not-suc-le-zero h)
mask_none (p ∷ l) (suc r) h = mask_none l r (le_of_suc-le-suc h)

pub place_words_lem : (l : Lane) (r : ℕ) → lane_round_words l r ≡ word_in l r ∷ mask_in l r ∷ []
unfolding lane_round_words word_in mask_in
place_words_lem [] r = refl
place_words_lem (p ∷ l) zero = refl
place_words_lem (p ∷ l) (suc r) = place_words_lem l r

-- ---- one round

pub round_length : (ls : List Lane) (r : ℕ) → length (round_words ls r) ≡ 2 * length ls
unfolding round_words
round_length [] r = refl
round_length (l ∷ ls) r = rw (place_words_lem l r) (omega (arith, round_length ls r))

pub round_word : (ls : List Lane) (r i : ℕ) → get_or (round_words ls r) (2 * i) 0 ≡ word_in (get_or ls i []) r
unfolding round_words word_in
round_word [] r i = refl
round_word (l ∷ ls) r zero = rw (place_words_lem l r)
round_word (l ∷ ls) r (suc i) =
    let e : 2 * suc i ≡ suc (suc (2 * i)) = omega arith in
    rw (place_words_lem l r, e) (round_word ls r i)

pub round_mask : (ls : List Lane) (r i : ℕ) → get_or (round_words ls r) (2 * i + 1) 0 ≡ mask_in (get_or ls i []) r
unfolding round_words mask_in
round_mask [] r i = refl
round_mask (l ∷ ls) r zero = rw (place_words_lem l r)
round_mask (l ∷ ls) r (suc i) =
    let e : 2 * suc i + 1 ≡ suc (suc (2 * i + 1)) = omega arith in
    rw (place_words_lem l r, e) (round_mask ls r i)

-- ---- all rounds

pub rounds_length : (ls : List Lane) (n r : ℕ) → length (rounds_from ls n r) ≡ 2 * length ls * n
unfolding rounds_from
rounds_length ls zero r = omega arith
rounds_length ls (suc n) r =
    omega (arith, length-append (round_words ls r) (rounds_from ls n (r + 1)), round_length ls r, rounds_length ls n (r + 1), mul-suc (2 * length ls) n)

rounds_at_lem : (ls : List Lane) (n r q x : ℕ) → q < n → x < 2 * length ls → get_or (rounds_from ls n r) (2 * length ls * q + x) 0 ≡ get_or (round_words ls (r + q)) x 0
unfolding rounds_from
rounds_at_lem ls zero r q x h l = absurd (not-suc-le-zero h)
rounds_at_lem ls (suc n) r zero x h l =
    let e : 2 * length ls * 0 + x ≡ x = omega arith in
    rw (e, add-zero r) (get_or-append (round_words ls r) (rounds_from ls n (r + 1)) 0 x (omega (arith, round_length ls r)))
rounds_at_lem ls (suc n) r (suc q) x h l =
    let e : 2 * length ls * suc q + x ≡ length (round_words ls r) + (2 * length ls * q + x) = omega (arith, round_length ls r, mul-suc (2 * length ls) q) in
    let f : r + suc q ≡ r + 1 + q = omega arith in
    rw (e, f) (get_or-append-add (round_words ls r) (rounds_from ls n (r + 1)) (2 * length ls * q + x) 0 ∙ rounds_at_lem ls n (r + 1) q x (le_of_suc-le-suc h) l)

-- ---- the section

module _ (n : ℕ) (lanes : List Lane) (wide : length lanes ≡ n) where
  pub section_length : length (read_section lanes) ≡ 2 * n * longest lanes
  section_length = rw (← wide) (rounds_length lanes (longest lanes) 0)

  section_at_lem : (r x : ℕ) → r < longest lanes → x < 2 * n → get_or (read_section lanes) (2 * n * r + x) 0 ≡ get_or (round_words lanes r) x 0
  section_at_lem r x h l = rw (← wide) (rounds_at_lem lanes (longest lanes) 0 r x h (omega arith)) ∙ ap (λ (q : ℕ). get_or (round_words lanes q) x 0) (zero-add r)

  section-past : (r x : ℕ) → longest lanes ≤ r → get_or (read_section lanes) (2 * n * r + x) 0 ≡ 0
  section-past r x h =
      let past : length (read_section lanes) ≤ 2 * n * r + x = omega (arith, section_length, mul-le-mul_left (2 * n) h) in
      get_or-eq_default (read_section lanes) 0 past

  -- "word and mask of lane i at 2i and 2i+1, zero where none", in round r; the section ends with the longest lane, so r may be any
  pub section_word : (r i : ℕ) → i < n → get_or (read_section lanes) (2 * n * r + 2 * i) 0 ≡ word_in (get_or lanes i []) r
  section_word r i h = ⊎_elim
      (λ l. section_at_lem r (2 * i) l (omega arith) ∙ round_word lanes r i)
      (λ l. section-past r (2 * i) l ∙ sym (word_none (get_or lanes i []) r (omega (arith, longest_ge lanes i))))
      (lt_or_ge r (longest lanes))

  pub section_mask : (r i : ℕ) → i < n → get_or (read_section lanes) (2 * n * r + 2 * i + 1) 0 ≡ mask_in (get_or lanes i []) r
  section_mask r i h =
      let e : 2 * n * r + 2 * i + 1 ≡ 2 * n * r + (2 * i + 1) = omega arith in
      rw e
      (⊎_elim (λ l. section_at_lem r (2 * i + 1) l (omega arith) ∙ round_mask lanes r i)
      (λ l. section-past r (2 * i + 1) l ∙ sym (mask_none (get_or lanes i []) r (omega (arith, longest_ge lanes i))))
      (lt_or_ge r (longest lanes)))
