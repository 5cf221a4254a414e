-- The entries of a section are positions exactly when both halves of each of its words are: every half of every word is one entry.
-- Assumes nothing.
use mathlib.Core.Path.{◌≡◌, refl, sym, ◌∙◌}
use mathlib.Core.Bool.{Bool, true, false}
use mathlib.Core.List.{List}
use Prim.Native.Nat.{ℕ, zero, suc, ◌+◌, ◌*◌, ◌%◌, ◌^◌, ◌<◌}
use native.Mathlib.Omega.{arith}
use lib.Dec.{ltb}
use lib.ListN.{get_or}
use Rattle.words.specs.Section.{word_of_entry, entry_of, half_of}
use Rattle.words.proofs.SectionLaws.{place_lt, place_entry}
use Rattle.words.specs.Tests.{all_below}
use Rattle.words.proofs.TestLaws.{not_both, and_true, not_true_false, all_at, all_true, all_fault}
use Rattle.run_machine.specs.Part.{section_at, entry_at}
use Rattle.run_form.specs.PartForm.{halves_form}

module _ (n : ℕ) (W : List ℕ) (o k s : ℕ) (is : s ≡ section_at n W o k) where
  abbrev good : ℕ → Bool
  good = halves_form (32 * n)

  half-good : (x e : ℕ) → e < 2 → good x ≡ true → ltb (half_of x e) (32 * n) ≡ true
  unfolding half_of
  half-good x zero l h = (and_true (ltb (x % 2 ^ 16) (32 * n)) _ h).0
  half-good x (suc zero) l h = (and_true (ltb (x % 2 ^ 16) (32 * n)) _ h).1
  half-good x (suc (suc e)) l h = absurd (omega arith)

  entries-good : ((w : ℕ) → w < 16 * n → good (get_or W (s + w) 0) ≡ true) → all_below (λ i. ltb (entry_at n W o k i) (32 * n)) (32 * n) ≡ true
  unfolding entry_at
  entries-good h = all_true _ (32 * n) (λ i l. rw (← is) (half-good (get_or W (s + word_of_entry n i) 0) (i % 2) (omega arith) (h (word_of_entry n i) (place_lt n i l))))

  -- the entry in half e of word w
  half-bad : (w e : ℕ) → w < 16 * n → e < 2 → ltb (half_of (get_or W (s + w) 0) e) (32 * n) ≡ false → all_below (λ i. ltb (entry_at n W o k i) (32 * n)) (32 * n) ≡ false
  unfolding entry_at
  half-bad w e h l f =
      let at = place_entry n w e h l in
      all_fault _ (32 * n) (entry_of n w e) at.0 (rw (← is, at.1, at.2) f)

  entries-bad : (w : ℕ) → w < 16 * n → good (get_or W (s + w) 0) ≡ false → all_below (λ i. ltb (entry_at n W o k i) (32 * n)) (32 * n) ≡ false
  unfolding half_of
  entries-bad w h f = by (ltb (get_or W (s + w) 0 % 2 ^ 16) (32 * n)) refl
    where
      x : ℕ
      x = get_or W (s + w) 0

      by : (t : Bool) → ltb (x % 2 ^ 16) (32 * n) ≡ t → all_below (λ i. ltb (entry_at n W o k i) (32 * n)) (32 * n) ≡ false
      by true e = half-bad w 1 h (omega arith) (rw e at f)
      by false e = half-bad w 0 h (omega arith) e

  abbrev entries : Bool
  entries = all_below (λ i. ltb (entry_at n W o k i) (32 * n)) (32 * n)

  word_good : entries ≡ true → (w : ℕ) → w < 16 * n → good (get_or W (s + w) 0) ≡ true
  word_good all w h = by (good (get_or W (s + w) 0)) refl
    where
      by : (t : Bool) → good (get_or W (s + w) 0) ≡ t → t ≡ true
      by true e = refl
      by false e = absurd (not_both entries all (entries-bad w h e))

  section-all : all_below (λ w. good (get_or W (s + w) 0)) (16 * n) ≡ entries
  section-all = by (all_below (λ w. good (get_or W (s + w) 0)) (16 * n)) refl
    where
      by : (t : Bool) → all_below (λ w. good (get_or W (s + w) 0)) (16 * n) ≡ t → t ≡ entries
      by true e = sym (entries-good (λ w l. all_at (λ w. good (get_or W (s + w) 0)) (16 * n) w e l))
      by false e = sym (not_true_false entries (λ all. not_both (all_below (λ w. good (get_or W (s + w) 0)) (16 * n)) (all_true (λ w. good (get_or W (s + w) 0)) (16 * n) (word_good all)) e))

  -- of a section of m words, as the code tests them
  pub section_words_lem : (m slots : ℕ) (r : Bool) → m ≡ 16 * n → slots ≡ 32 * n → r ≡ all_below (λ w. halves_form slots (get_or W (s + w) 0)) m → r ≡ entries
  section_words_lem m slots r e f h = (rw (e, f) at h) ∙ section-all
