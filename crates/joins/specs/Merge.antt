-- The answers of the code, and one step of its two passes.
-- Assumes nothing.
use Rattle.std.specs.declared.result.Result.{Result}
use Rattle.std.specs.Prelude.{◌≡◌, ⊤, Ok, Err, true, false, List, [], ◌∷◌, ℕ, ◌+◌, ◌%◌, ◌≤◌, ◌<◌, ltb, eqb, length, get_or}
use Rattle.std.proofs.Math.Option.{Option, none, some}
use Rattle.std.specs.Int.Bits.{bit_or}
use Rattle.words.specs.Answer.{Answer, result_of}
use Rattle.words.specs.declared.refusals.Refusal.{Refusal}
use Rattle.reads.specs.ReadSet.{pairs_of}
use Rattle.reads_asked.specs.Rising.{Rising}
use Rattle.joins_sets.specs.Join.{join, set_refusal}
use Rattle.joins.specs.declared.merging.Step.{Step}

-- the number of pairs of a set's words
abbrev pub pairs_count : List ℕ → ℕ
pairs_count s = length (pairs_of s)

abbrev pub tested_of : Option Refusal → Result ⊤ Refusal
tested_of none = Ok tt
tested_of (some q) = Err q

-- whether there is an answer
abbrev pub fits_of : Answer (List ℕ) → Result ⊤ Refusal
fits_of = result_of (λ s. tt)

-- two sets that each test lets through
pub record FineSets (a b : List ℕ) : Type 0 where
  pub first : set_refusal a ≡ none
  pub second : set_refusal b ≡ none

-- the first pair of the first set, of the second, or of both with masks or'ed, and how many words of each set it takes
abbrev pub of_first : List ℕ → Step
of_first a = record { word = get_or a 0 0; mask = get_or a 1 0; first = 2; second = 0 }

abbrev pub of_second : List ℕ → Step
of_second b = record { word = get_or b 0 0; mask = get_or b 1 0; first = 0; second = 2 }

abbrev pub of_both : List ℕ → List ℕ → Step
of_both a b = record { word = get_or a 0 0; mask = bit_or (get_or a 1 0) (get_or b 1 0); first = 2; second = 2 }

-- the first pair of the join of two sets
unfoldable pub first_pair : List ℕ → List ℕ → Step
first_pair a [] = of_first a
first_pair [] (v ∷ ys) = of_second (v ∷ ys)
first_pair (w ∷ xs) (v ∷ ys) =
    elim (ltb w v) [
      | true ↦ of_first (w ∷ xs)
      | false ↦ elim (eqb w v) [ true ↦ of_both (w ∷ xs) (v ∷ ys) | false ↦ of_second (v ∷ ys) ]
    ]

-- a pair in each
pub record PairOfEach (a b : List ℕ) : Type 0 where
  pub first : 2 ≤ length a
  pub second : 2 ≤ length b

-- whole pairs, and one at least
pub record HasPair (a b : List ℕ) : Type 0 where
  pub first : length a % 2 ≡ 0
  pub second : length b % 2 ≡ 0
  pub some_words : 0 < length a + length b

-- two such sets, by their words
pub record Joinable (a b : List ℕ) : Type 0 where
  pub first : Rising 0 a
  pub second : Rising 0 b
  pub first-few : length a ≤ 16384
  pub second-few : length b ≤ 16384

-- and room for their join in a result of o words
pub record RoomForJoin (a b : List ℕ) (o : ℕ) : Type 0 where
  pub sets : Joinable a b
  pub room : length (join a b) ≤ o
