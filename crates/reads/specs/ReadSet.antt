-- A read set: document 01, "Read rounds", first paragraph, and refusals 1 and 2.
-- Assumes nothing.
use Rattle.std.specs.Prelude.{Bool, true, false, ◌&&◌, List, [], ◌∷◌, ℕ, ◌+◌, ◌%◌, ◌^◌, leb, ltb}
use Rattle.std.proofs.Math.Option.{Option, none, some}
use Rattle.words.specs.Bit.{pop}

-- "A read set is pairs (word, mask)": a pair, with its number in the set
pub record Pair : Type 0 where
  pub at : ℕ
  pub word : ℕ
  pub mask : ℕ

-- the bits that a pair asks for
abbrev pub bits : Pair → ℕ
bits p = pop p.mask

unfoldable pub total : List Pair → ℕ
total [] = 0
total (p ∷ ps) = bits p + total ps

-- The pairs of a lent slice: word, mask, word, mask, .. A last half pair has no mask; it counts, and breaks the form as a mask 0 does.
unfoldable pub pairs_from : ℕ → List ℕ → List Pair
pairs_from i [] = []
pairs_from i (w ∷ []) = record { at = i; word = w; mask = 0 } ∷ []
pairs_from i (w ∷ m ∷ ws) = record { at = i; word = w; mask = m } ∷ pairs_from (i + 1) ws

abbrev pub pairs_of : List ℕ → List Pair
pairs_of ws = pairs_from 0 ws

-- "Bit 31 of a word means staged; the rest is below 2^27. Masks are nonzero."
unfoldable pub pair_form : Pair → Bool
pair_form p = ltb (p.word % 2 ^ 31) (2 ^ 27) && ltb 0 p.mask

-- "strictly ascending by word as an unsigned number": the first pair that breaks the form, in itself or by a word below `low`, which is one
-- above the word before it
unfoldable pub broken_from : ℕ → List Pair → Option ℕ
broken_from low [] = none
broken_from low (p ∷ ps) = elim (leb low p.word && pair_form p) [ true ↦ broken_from (p.word + 1) ps | false ↦ some p.at ]

abbrev pub broken : List Pair → Option ℕ
broken ps = broken_from 0 ps
