-- What reading and writing come to where a result is lent, and what it then holds: all refusals come before 14.
-- Assumes nothing.
use Rattle.std.specs.Prelude.{true, false, List, ℕ, leb, length}
use Rattle.std.proofs.lemmas.List.Edits.{sets}
use Rattle.words.specs.Answer.{Answer, good, refused, nowhere}
use Rattle.aiger.specs.Reading.{Read}

-- 14: "lent result room shorter than needed"
unfoldable pub fitting : ℕ → Answer Read → Answer Read
fitting o (good x) = elim (leb (length x.list) o) [ true ↦ good x | false ↦ refused (nowhere 14) ]
fitting o (refused q) = refused q

-- the list from the start of the lent words, or what they held
unfoldable pub gate_list_after : Answer Read → List ℕ → List ℕ
gate_list_after (good x) out = sets out 0 x.list
gate_list_after (refused q) out = out

-- the same of a text
unfoldable pub holding : ℕ → Answer (List ℕ) → Answer (List ℕ)
holding o (good t) = elim (leb (length t) o) [ true ↦ good t | false ↦ refused (nowhere 14) ]
holding o (refused q) = refused q

unfoldable pub file_after : Answer (List ℕ) → List ℕ → List ℕ
file_after (good t) out = sets out 0 t
file_after (refused q) out = out
