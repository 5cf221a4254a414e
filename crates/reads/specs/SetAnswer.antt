-- What a read set gets: rounds or a numbered refusal, and what the lent words then hold. Document 01, "Numbered refusals": "A read set: 1, 2,
-- 3, 4, 14", 32 before all others, 14 told at (0, 0). Document 02, 4/13: "3, then 21, 22, 4", 4 told at "that word". Refusals of a read set have
-- part 0.
-- Assumes nothing.
use Rattle.std.specs.Prelude.{true, false, List, ℕ, ◌*◌, leb, ltb, length, replicate}
use Rattle.std.proofs.Math.Option.{none, some}
use Rattle.std.proofs.lemmas.List.Edits.{sets}
use Rattle.words.specs.Answer.{Answer, good, refused, at_item, nowhere}
use Rattle.reads.specs.ReadSet.{Pair, total, pairs_of, broken}
use Rattle.reads.specs.Search.{Lane, won, ended, found_of, last_word, longest}
use Rattle.reads.specs.Packing.{wide_pairs}
use Rattle.reads.specs.ReadSection.{read_section}

-- what a set that is placed gets: "the piece size of the winning try" (document 02, 2/13) and its lanes
pub record Packed : Type 0 where
  pub size : ℕ
  pub lanes : List Lane

-- what the search over a set's pairs gives: the winning try, or 4
unfoldable pub searched : ℕ → List Pair → Answer Packed
searched n ps = elim (found_of n ps) [ ended ↦ refused (at_item 4 (last_word n ps)) | won k lanes ↦ good (record { size = k; lanes = lanes }) ]

-- "21 too many bits, 22 too many wide words, both placed as 3 is; 3, then 21, 22, 4"
unfoldable pub packed : ℕ → List Pair → Answer Packed
packed n ps =
    elim (ltb 0 (length ps)) [
      | false ↦ refused (nowhere 3)
      | true ↦ elim (leb (total ps) (32 * n)) [
        | false ↦ refused (nowhere 21)
        | true ↦ elim (leb (wide_pairs ps) n) [ false ↦ refused (nowhere 22) | true ↦ searched n ps ]
      ]
    ]

-- 1 and 2 come before that
unfoldable pub read_set : ℕ → List Pair → Answer Packed
read_set n ps = elim (leb (length ps) 8192) [ false ↦ refused (nowhere 1) | true ↦ elim (broken ps) [ some i ↦ refused (at_item 2 i) | none ↦ packed n ps ] ]

-- 14 after it: the lent result has o words
unfoldable pub set_fitted : ℕ → ℕ → Answer Packed → Answer Packed
set_fitted n o (refused q) = refused q
set_fitted n o (good x) = elim (leb (2 * n * longest x.lanes) o) [ false ↦ refused (nowhere 14) | true ↦ good x ]

-- and 32 before all: the lent room has r words
unfoldable pub set_answer : ℕ → List ℕ → ℕ → ℕ → Answer Packed
set_answer n ws o r = elim (leb 16384 r) [ false ↦ refused (nowhere 32) | true ↦ set_fitted n o (read_set n (pairs_of ws)) ]

-- the lent result then holds the read section from its start, or what it held
unfoldable pub result_after : Answer Packed → List ℕ → List ℕ
result_after (good x) out = sets out 0 (read_section x.lanes)
result_after (refused q) out = out

-- the lent room then holds zeros; one that is too short holds what it held
unfoldable pub set_room_after : List ℕ → List ℕ
set_room_after room = elim (leb 16384 (length room)) [ false ↦ room | true ↦ replicate (length room) 0 ]
