-- Capturing in place: what is read lies below the captured words or is the word that is written, so it is still that of before.
-- Assumes nothing.
use mathlib.Core.Path.{◌≡◌, sym, ap, ap₂, ◌∙◌}
use mathlib.Core.Bool.{Bool, true, false}
use mathlib.Core.List.{List}
use Prim.Native.Nat.{ℕ, ◌+◌, ◌/◌, ◌%◌, ◌<◌}
use native.Mathlib.Omega.{arith}
use borrow.Author.Tests.{eq-eqb, ne_eqb}
use lib.Dec.{eqb}
use lib.ListN.{get_or, drop, set}
use lib.Seq.{sets, get_or-drop}
use Rattle.words.specs.Section.{list_of}
use Rattle.words.proofs.SectionLaws.{length_list_of, list_of_ext}
use Rattle.run_machine.specs.Part.{location_in, normal_at}
use Rattle.run_machine.specs.Turn.{captured}
use Rattle.run_machine.specs.Room.{captured_from}
use Rattle.run_turns.specs.Capture.{captured_word}
use Rattle.run_machine.proofs.SetsLaws.{sets_more, sets-under, sets_over}

module _ (n : ℕ) (W : List ℕ) (o k : ℕ) where
  -- as the code tests it
  pub word_here : (room caps : List ℕ) (l s w : ℕ) → s ≡ location_in n W o l / 256 → w ≡ location_in n W o l % 256 → s ≡ k → get_or room w 0 ≡ captured_word n W o k room caps l
  unfolding captured_word
  word_here room caps l s w e f h = rw (← e, eq-eqb s k h, captured_word) (ap (λ (y : ℕ). get_or room y 0) f)

  pub word_kept : (room : List ℕ) (l s : ℕ) → s ≡ location_in n W o l / 256 → (s ≡ k → ⊥) → get_or room (captured_from + l) 0 ≡ captured_word n W o k room (drop captured_from room) l
  unfolding captured_word
  word_kept room l s e h = rw (← e, ne_eqb s k h, captured_word) (sym (get_or-drop captured_from room l 0))

  word_same : (row row' caps caps' : List ℕ) (l : ℕ) → get_or row (location_in n W o l % 256) 0 ≡ get_or row' (location_in n W o l % 256) 0 → get_or caps l 0 ≡ get_or caps' l 0
      → captured_word n W o k row caps l ≡ captured_word n W o k row' caps' l
  unfolding captured_word
  word_same row row' caps caps' l p q = by (eqb (location_in n W o l / 256) k)
    where
      pick : Bool → ℕ → ℕ → ℕ
      pick t x y = elim t [ true ↦ x | false ↦ y ]

      by : (t : Bool) → pick t (get_or row (location_in n W o l % 256) 0) (get_or caps l 0) ≡ pick t (get_or row' (location_in n W o l % 256) 0) (get_or caps' l 0)
      by true = p
      by false = q

  -- one word more
  pub capture_more : (room₀ room : List ℕ) (l v : ℕ) → room ≡ sets room₀ captured_from (list_of (captured_word n W o k room₀ (drop captured_from room₀)) l)
      → location_in n W o l % 256 < 256 → v ≡ captured_word n W o k room (drop captured_from room) l
      → set room (captured_from + l) v ≡ sets room₀ captured_from (list_of (captured_word n W o k room₀ (drop captured_from room₀)) (l + 1))
  capture_more room₀ room l v e h is = ap₂ (λ (r : List ℕ) (x : ℕ). set r (captured_from + l) x) e (is ∙ word_same room room₀ _ _ l row caps) ∙ sets_more room₀ captured_from f l
    where
      f : ℕ → ℕ
      f = captured_word n W o k room₀ (drop captured_from room₀)

      row : get_or room (location_in n W o l % 256) 0 ≡ get_or room₀ (location_in n W o l % 256) 0
      row = rw e (sets-under room₀ captured_from (list_of f l) (location_in n W o l % 256) (omega arith))

      caps : get_or (drop captured_from room) l 0 ≡ get_or (drop captured_from room₀) l 0
      caps =
          get_or-drop captured_from room l 0
          ∙ ap (λ (r : List ℕ). get_or r (captured_from + l) 0) e
          ∙ sets_over room₀ captured_from (list_of f l) (captured_from + l) (omega (arith, length_list_of f l))
          ∙ sym (get_or-drop captured_from room₀ l 0)

  pub capture_end : (row caps : List ℕ) (l : ℕ) → l ≡ normal_at W o → list_of (captured_word n W o k row caps) l ≡ captured n W o k row caps
  unfolding captured captured_word
  capture_end row caps l e = rw e

  -- captured words are those of the same positions and the same captured words before
  pub capture_ext : (row row' caps caps' : List ℕ) → ((l : ℕ) → l < normal_at W o → location_in n W o l % 256 < n) → ((i : ℕ) → i < n → get_or row i 0 ≡ get_or row' i 0) → ((l : ℕ) → l < normal_at W o → get_or caps l 0 ≡ get_or caps' l 0)
      → captured n W o k row caps ≡ captured n W o k row' caps'
  unfolding captured captured_word
  capture_ext row row' caps caps' inside p q =
      list_of_ext (captured_word n W o k row caps) (captured_word n W o k row' caps') (normal_at W o)
      (λ l h. word_same row row' caps caps' l (p (location_in n W o l % 256) (inside l h)) (q l h))
