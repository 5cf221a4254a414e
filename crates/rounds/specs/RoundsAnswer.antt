-- What the rounds of a read set are refused by before the set is looked at: 32, then 29 (document 02, 10/13: "29 edition unknown, before all others",
-- but for 32). n is the number that is given for an edition, which is its number of lanes.
-- Assumes nothing.
use Rattle.std.specs.Prelude.{true, false, List, ℕ, leb}
use Rattle.words.specs.Answer.{Answer, refused, nowhere}
use Rattle.words.specs.Edition.{known}
use Rattle.reads.specs.ReadSet.{pairs_of}
use Rattle.reads.specs.SetAnswer.{Packed, read_set, set_fitted}

-- 29, else what the set gets: the lent result has o words
unfoldable pub edition_answer : ℕ → List ℕ → ℕ → Answer Packed
edition_answer n ws o = elim (known n) [ false ↦ refused (nowhere 29) | true ↦ set_fitted n o (read_set n (pairs_of ws)) ]

-- 32 before all: the lent room has r words
unfoldable pub rounds_answer : ℕ → List ℕ → ℕ → ℕ → Answer Packed
rounds_answer n ws o r = elim (leb 16384 r) [ false ↦ refused (nowhere 32) | true ↦ edition_answer n ws o ]
