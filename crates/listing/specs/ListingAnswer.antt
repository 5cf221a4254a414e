-- The listing program's answer as the code holds it: rounds, whose lines a read section gives; or the byte of a bad record, or a refusal. n is the
-- number of lanes.
-- Assumes nothing.
use Rattle.std.proofs.Math.Option.{none, some}
use Rattle.std.specs.Prelude.{List, [], ◌∷◌, ◌++◌, ℕ, Ok, Err}
use Rattle.std.specs.declared.result.Result.{Result}
use Rattle.reads.specs.Search.{longest}
use Rattle.words.specs.Answer.{Answer, good, refused}
use Rattle.reads.specs.SetAnswer.{Packed, result_after}
use Rattle.listing_records.specs.Records.{Parsed}
use Rattle.text.specs.Text.{decimal}
use Rattle.listing.specs.Listing.{rounds_word, refused_word, at_word, records_answer}
use Rattle.listing.specs.SectionLines.{section_lines}
use Rattle.listing.specs.declared.answer.Unlisted.{Unlisted}
use Rattle.listing.specs.declared.answer.Unlisted.TheVariants as unlisted

-- the answer to records, and the lent section then
unfoldable pub answered : Answer Packed → Result ℕ Unlisted
answered (good x) = Ok (longest x.lanes)
answered (refused q) = Err (unlisted.Set q)

unfoldable pub answer_to : ℕ → Parsed → Result ℕ Unlisted
answer_to n p = elim p.fault [ some b ↦ Err (unlisted.Record b) | none ↦ answered (records_answer n p) ]

unfoldable pub section_after : ℕ → Parsed → List ℕ → List ℕ
section_after n p s = elim p.fault [ some b ↦ s | none ↦ result_after (records_answer n p) s ]

-- its text
abbrev pub unlisted_text : Unlisted → List ℕ
unlisted_text (unlisted.Set q) = refused_word ++ (decimal q.number ++ (10 ∷ []))
unlisted_text (unlisted.Record b) = refused_word ++ (at_word ++ (decimal b ++ (10 ∷ [])))

unfoldable pub answer_text : ℕ → Result ℕ Unlisted → List ℕ → List ℕ
answer_text n (Ok k) s = rounds_word ++ (decimal k ++ ((10 ∷ []) ++ section_lines n s k n 0))
answer_text n (Err u) s = unlisted_text u
