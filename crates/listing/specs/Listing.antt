-- What the listing program prints for any standard input: document 01, "Listing program". n is the number of lanes: 256 of the program, and that of
-- the edition that `list` is given (10/13 of document 02).
-- Assumes nothing.
use Rattle.std.specs.Prelude.{true, false, List, [], ◌∷◌, ◌++◌, ℕ, ◌+◌, leb, length}
use Rattle.std.proofs.Math.Option.{none, some}
use Rattle.std.proofs.lemmas.List.Edits.{sets}
use Rattle.reads.specs.Search.{Lane, longest}
use Rattle.reads.specs.Asked.{read_set_of}
use Rattle.words.specs.Answer.{Answer, good, refused, nowhere}
use Rattle.words.specs.Edition.{known}
use Rattle.reads.specs.ReadSet.{pairs_of}
use Rattle.reads.specs.SetAnswer.{Packed, read_set, set_fitted}
use Rattle.listing_records.specs.Records.{Parsed, records}
use Rattle.text.specs.Text.{decimal}
use Rattle.listing_line.specs.Line.{line}

-- "by lane, then round)": the lines of lane i from round r on, then those of the lanes from lane i on
unfoldable pub lane_lines : ℕ → ℕ → Lane → List ℕ
lane_lines i r [] = []
lane_lines i r (p ∷ ps) = line i r p.word p.mask ++ lane_lines i (r + 1) ps

unfoldable pub lines : ℕ → List Lane → List ℕ
lines i [] = []
lines i (l ∷ ls) = lane_lines i 0 l ++ lines (i + 1) ls

-- `rounds ` and `refused `
abbrev pub rounds_word : List ℕ
rounds_word = 114 ∷ 111 ∷ 117 ∷ 110 ∷ 100 ∷ 115 ∷ 32 ∷ []

abbrev pub refused_word : List ℕ
refused_word = 114 ∷ 101 ∷ 102 ∷ 117 ∷ 115 ∷ 101 ∷ 100 ∷ 32 ∷ []

-- `17 at `
abbrev pub at_word : List ℕ
at_word = 49 ∷ 55 ∷ 32 ∷ 97 ∷ 116 ∷ 32 ∷ []

-- "It prints `refused N`", or the rounds and the lines; each line ends in LF
unfoldable pub printed : Answer Packed → List ℕ
printed (refused q) = refused_word ++ (decimal q.number ++ (10 ∷ []))
printed (good x) = rounds_word ++ (decimal (longest x.lanes) ++ ((10 ∷ []) ++ lines 0 x.lanes))

-- "and ` at B` for 17"
unfoldable pub printed_at : ℕ → List ℕ
printed_at b = refused_word ++ (at_word ++ (decimal b ++ (10 ∷ [])))

-- what the read set of records gets. Rounds are at most 32, so 16384 result words are enough.
abbrev pub records_answer : ℕ → Parsed → Answer Packed
records_answer n p = set_fitted n 16384 (read_set n (pairs_of (read_set_of p.keys)))

-- The text that records give.
unfoldable pub said : ℕ → Parsed → List ℕ
said n p = elim p.fault [ some b ↦ printed_at b | none ↦ printed (records_answer n p) ]

unfoldable pub listing : ℕ → List ℕ → List ℕ
listing n bs = said n (records bs)

-- What `list` answers where it is lent o bytes for the text and r words of working room: 32, then 29, then 14, else the text.
unfoldable pub listed : ℕ → List ℕ → ℕ → ℕ → Answer (List ℕ)
listed n bs o r =
    elim (leb 16384 r) [
      | false ↦ refused (nowhere 32)
      | true ↦ elim (known n) [
        | false ↦ refused (nowhere 29)
        | true ↦ elim (leb (length (listing n bs)) o) [ false ↦ refused (nowhere 14) | true ↦ good (listing n bs) ]
      ]
    ]

-- the lent bytes then hold the text from their start, or what they held
unfoldable pub text_after : Answer (List ℕ) → List ℕ → List ℕ
text_after (good t) out = sets out 0 t
text_after (refused q) out = out
