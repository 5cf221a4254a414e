-- Laws of the answer as text: its parts, one after the other.
-- Assumes nothing.
use mathlib.Core.Path.{ap}
use mathlib.Core.List.{List, [], ◌∷◌, ◌++◌, append_assoc}
use Prim.Native.Nat.{ℕ, ◌*◌, ◌^◌}
use native.Mathlib.Omega.{arith}
use Rattle.std.specs.Prelude.{Ok, Err}
use Rattle.text.specs.Text.{decimal}
use Rattle.text.specs.Wrote.{Wrote}
use Rattle.text.specs.declared.Writer.{Writer}
use Rattle.text.proofs.WritingLaws.{wrote_then, wrote_is, wrote_wide}
use Rattle.listing.specs.SectionLines.{section_lines}
use Rattle.listing.specs.Listing.{rounds_word}
use Rattle.listing.specs.ListingAnswer.{answer_text, unlisted_text}
use Rattle.listing.specs.declared.answer.Unlisted.{Unlisted}

module _ (lanes : ℕ) (s : List ℕ) where
  pub wrote_rounds : (n : ℕ) {a b c d : Writer} → Wrote 7 rounds_word a b → Wrote 21 (decimal n ++ (10 ∷ [])) b c
      → Wrote (256 * (74 * 2 ^ 32)) (section_lines lanes s n lanes 0) c d → Wrote (2 ^ 60) (answer_text lanes (Ok n) s) a d
  unfolding answer_text
  wrote_rounds n word number lines =
      wrote_is _ _ (ap (λ (l : List ℕ). rounds_word ++ l) (append_assoc (decimal n) (10 ∷ []) (section_lines lanes s n lanes 0)))
      (wrote_wide (omega arith) (wrote_then rounds_word _ word (wrote_then (decimal n ++ (10 ∷ [])) _ number lines)))

  pub wrote_unlisted : (u : Unlisted) {a b : Writer} → Wrote 35 (unlisted_text u) a b → Wrote (2 ^ 60) (answer_text lanes (Err u) s) a b
  unfolding answer_text
  wrote_unlisted u f = wrote_wide (omega arith) f
