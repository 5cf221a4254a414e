-- The report's lines, in ASCII: document 02, 9/13. Each line ends in LF.
-- Assumes nothing.
use Rattle.std.specs.Prelude.{true, false, List, [], ◌∷◌, ◌++◌, ℕ, zero, suc, ◌+◌, ◌*◌, leb, ltb, length}
use Rattle.std.proofs.lemmas.List.Edits.{sets}
use Rattle.words.specs.Answer.{Answer, good, refused, nowhere}
use Rattle.text.specs.Text.{decimal, field}
use Rattle.report.specs.Batch.{batch_at, batch_form}

-- `parts `, `bits `, `lanes `, `rounds `, `empty `, `words `, `occupancy `, `refused `
abbrev pub parts_name : List ℕ
parts_name = 112 ∷ 97 ∷ 114 ∷ 116 ∷ 115 ∷ 32 ∷ []

abbrev pub bits_name : List ℕ
bits_name = 98 ∷ 105 ∷ 116 ∷ 115 ∷ 32 ∷ []

abbrev pub lanes_name : List ℕ
lanes_name = 108 ∷ 97 ∷ 110 ∷ 101 ∷ 115 ∷ 32 ∷ []

abbrev pub rounds_name : List ℕ
rounds_name = 114 ∷ 111 ∷ 117 ∷ 110 ∷ 100 ∷ 115 ∷ 32 ∷ []

abbrev pub empty_name : List ℕ
empty_name = 101 ∷ 109 ∷ 112 ∷ 116 ∷ 121 ∷ 32 ∷ []

abbrev pub words_name : List ℕ
words_name = 119 ∷ 111 ∷ 114 ∷ 100 ∷ 115 ∷ 32 ∷ []

abbrev pub occupancy_name : List ℕ
occupancy_name = 111 ∷ 99 ∷ 99 ∷ 117 ∷ 112 ∷ 97 ∷ 110 ∷ 99 ∷ 121 ∷ 32 ∷ []

abbrev pub refused_name : List ℕ
refused_name = 114 ∷ 101 ∷ 102 ∷ 117 ∷ 115 ∷ 101 ∷ 100 ∷ 32 ∷ []

-- a word and a number, a word and two
unfoldable pub report_line : List ℕ → ℕ → List ℕ
report_line word x = word ++ (decimal x ++ (10 ∷ []))

unfoldable pub line_of_two : List ℕ → ℕ → ℕ → List ℕ
line_of_two word x y = word ++ (field x ++ (decimal y ++ (10 ∷ [])))

-- the totals
unfoldable pub total_lines : List ℕ → List ℕ
total_lines b =
    report_line parts_name (batch_at b 1)
    ++ (report_line bits_name (batch_at b 2) ++ (report_line lanes_name (batch_at b 3) ++ (report_line rounds_name (batch_at b 4) ++ (report_line empty_name (batch_at b 5) ++ report_line words_name (batch_at b 6)))))

-- "occupancy as two whole numbers, bits over 32·256·parts, not reduced", where 256 is the number of lanes
unfoldable pub occupancy_line : List ℕ → List ℕ
occupancy_line b = line_of_two occupancy_name (batch_at b 2) (32 * (batch_at b 7 * batch_at b 1))

-- "its line `refused N COUNT`", of a number that occurred
unfoldable pub refused_line : List ℕ → ℕ → List ℕ
refused_line b k = elim (ltb 0 (batch_at b (8 + k))) [ false ↦ [] | true ↦ line_of_two refused_name k (batch_at b (8 + k)) ]

-- "these follow in number order": m numbers from k on
unfoldable pub refused_lines : List ℕ → ℕ → ℕ → List ℕ
refused_lines b zero k = []
refused_lines b (suc m) k = refused_line b k ++ refused_lines b m (k + 1)

unfoldable pub report_text : List ℕ → List ℕ
report_text b = total_lines b ++ (occupancy_line b ++ refused_lines b 40 0)

-- 5, then 14 where the lent result has o bytes, else the text
unfoldable pub report_answer : List ℕ → ℕ → Answer (List ℕ)
report_answer b o =
    elim (batch_form b) [
      | false ↦ refused (nowhere 5)
      | true ↦ elim (leb (length (report_text b)) o) [ false ↦ refused (nowhere 14) | true ↦ good (report_text b) ]
    ]

-- the lent bytes then hold the text from their start, or what they held
unfoldable pub report_after : Answer (List ℕ) → List ℕ → List ℕ
report_after (good t) out = sets out 0 t
report_after (refused q) out = out
