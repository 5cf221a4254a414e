-- The local position of one bit of a read set: document 01, "Read rounds", third paragraph, of the lanes that the search finds. The set is refused as
-- its rounds are: 32, 29, 1, 2, 3, 21, 22, 4. Nothing but the room is lent to be written, so 14 is not given. n is the number of lanes.
-- Assumes nothing.
use Rattle.std.specs.Prelude.{Bool, true, false, ◌&&◌, List, [], ◌∷◌, ℕ, leb, eqb}
use Rattle.std.proofs.Math.Option.{Option, none}
use Rattle.words.specs.Bit.{bit}
use Rattle.words.specs.Answer.{Answer, good, refused, nowhere}
use Rattle.words.specs.Edition.{known}
use Rattle.reads.specs.ReadSet.{Pair, pairs_of}
use Rattle.reads.specs.Local.{local_of}
use Rattle.reads.specs.SetAnswer.{Packed, read_set}

-- whether a set asks for bit k of word w: one of its pairs has the word, and the bit in its mask
unfoldable pub asks_for : List Pair → ℕ → ℕ → Bool
asks_for [] w k = false
asks_for (p ∷ ps) w k = elim (eqb p.word w && eqb (bit p.mask k) 1) [ true ↦ true | false ↦ asks_for ps w k ]

-- where a packing brings bit k of word w: "32·lane, plus all mask bits of later rounds in that lane, plus mask bits above k in the same pair"; nowhere
-- where the set does not ask for it
unfoldable pub brought_by : List Pair → ℕ → ℕ → Packed → Option ℕ
brought_by ps w k x = elim (asks_for ps w k) [ true ↦ local_of x.lanes w k | false ↦ none ]

-- so it is of a set that is placed
unfoldable pub brought_in : List Pair → ℕ → ℕ → Answer Packed → Answer (Option ℕ)
brought_in ps w k (good x) = good (brought_by ps w k x)
brought_in ps w k (refused q) = refused q

-- 29 before that: n names no edition
unfoldable pub edition_local : ℕ → List ℕ → ℕ → ℕ → Answer (Option ℕ)
edition_local n ws w k = elim (known n) [ false ↦ refused (nowhere 29) | true ↦ brought_in (pairs_of ws) w k (read_set n (pairs_of ws)) ]

-- and 32 before all: the lent room has r words
unfoldable pub local_answer : ℕ → List ℕ → ℕ → ℕ → ℕ → Answer (Option ℕ)
local_answer n ws r w k = elim (leb 16384 r) [ false ↦ refused (nowhere 32) | true ↦ edition_local n ws w k ]
