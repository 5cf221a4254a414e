-- Merging read sets: document 02, 11/13. Sets are words as they are lent: word, mask, word, mask, .. "The empty set is legal here."
-- Assumes nothing.
use Rattle.std.specs.Prelude.{true, false, List, [], ◌∷◌, ℕ, leb, ltb, eqb, length}
use Rattle.std.proofs.Math.Option.{Option, none, some}
use Rattle.std.specs.Int.Bits.{bit_or}
use Rattle.std.proofs.lemmas.List.Edits.{sets}
use Rattle.words.specs.Answer.{Answer, good, refused, at_item, nowhere}
use Rattle.words.specs.declared.refusals.Refusal.{Refusal}
use Rattle.reads.specs.ReadSet.{pairs_of, broken}

-- "same words, masks or'ed": a set with one pair more, or'ed where its word stands already
unfoldable pub put_pair : ℕ → ℕ → List ℕ → List ℕ
put_pair w m [] = w ∷ m ∷ []
put_pair w m (v ∷ []) = v ∷ []
put_pair w m (v ∷ n ∷ ws) =
    elim (ltb w v) [
      | true ↦ w ∷ m ∷ v ∷ n ∷ ws
      | false ↦ elim (eqb w v) [ true ↦ v ∷ bit_or n m ∷ ws | false ↦ v ∷ n ∷ put_pair w m ws ]
    ]

-- a join: the pairs of the first set put into the second
unfoldable pub join : List ℕ → List ℕ → List ℕ
join [] b = b
join (w ∷ []) b = b
join (w ∷ m ∷ ws) b = put_pair w m (join ws b)

-- "tested by 1, then 2"
unfoldable pub set_refusal : List ℕ → Option Refusal
set_refusal s =
    elim (leb (length (pairs_of s)) 8192) [
      | false ↦ some (nowhere 1)
      | true ↦ elim (broken (pairs_of s)) [ some i ↦ some (at_item 2 i) | none ↦ none ]
    ]

-- "a join of over 8192 pairs is 1"; 14 comes last: the lent result has o words
unfoldable pub join_fitted : ℕ → List ℕ → Answer (List ℕ)
join_fitted o s =
    elim (leb (length (pairs_of s)) 8192) [
      | false ↦ refused (nowhere 1)
      | true ↦ elim (leb (length s) o) [ false ↦ refused (nowhere 14) | true ↦ good s ]
    ]

-- "The first argument is tested .., then the second so; after that" the join
unfoldable pub joining : List ℕ → List ℕ → ℕ → Answer (List ℕ)
joining a b o =
    elim (set_refusal a) [
      | some q ↦ refused q
      | none ↦ elim (set_refusal b) [ some q ↦ refused q | none ↦ join_fitted o (join a b) ]
    ]

-- the lent result then holds the join from its start, or what it held
unfoldable pub join_after : Answer (List ℕ) → List ℕ → List ℕ
join_after (good s) out = sets out 0 s
join_after (refused q) out = out
