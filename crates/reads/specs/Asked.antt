-- The read set that asks for given bits: what the Rust gathers in `inputs_taken`. A bit is one number, 32·word + its place in the word, where
-- the word has bit 31 set for a staged position.
-- Assumes nothing.
use Rattle.std.specs.Prelude.{true, false, List, [], ◌∷◌, ℕ, ◌/◌, ◌%◌, ◌^◌, ltb, eqb}
use Rattle.words.specs.Bit.{with_bit}

-- a set, as word, mask, word, mask, .., that asks for bit q too
unfoldable pub ask : ℕ → List ℕ → List ℕ
ask q [] = (q / 32) ∷ (2 ^ (q % 32)) ∷ []
ask q (w ∷ []) = w ∷ []
ask q (w ∷ m ∷ ws) =
    elim (ltb (q / 32) w) [
      | true ↦ (q / 32) ∷ (2 ^ (q % 32)) ∷ w ∷ m ∷ ws
      | false ↦ elim (eqb (q / 32) w) [ true ↦ w ∷ with_bit m (q % 32) ∷ ws | false ↦ w ∷ m ∷ ask q ws ]
    ]

-- the set that asks for each of the bits
unfoldable pub read_set_of : List ℕ → List ℕ
read_set_of [] = []
read_set_of (q ∷ qs) = ask q (read_set_of qs)
