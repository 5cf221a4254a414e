-- What a part reads: the bits that its pins of level 0 of stage 0 ask for, the read set, the lanes, and a pin's local position. Document 01, "The
-- script of a part" and "Read rounds"; the Rust's `inputs_taken` and `outputpos2localpos`. n is the number of lanes.
-- Assumes nothing.
use Rattle.std.specs.Prelude.{Bool, true, false, List, [], ◌∷◌, ◌++◌, ℕ, zero, suc, ◌+◌, ◌*◌, ◌/◌, ◌%◌, ◌^◌, eqb}
use Rattle.std.proofs.Math.Option.{Option, none, some}
use Rattle.reads.specs.ReadSet.{pairs_of}
use Rattle.reads.specs.Asked.{read_set_of}
use Rattle.reads.specs.Search.{Lane}
use Rattle.reads.specs.Local.{local_of}
use Rattle.words.specs.Answer.{Answer, good, refused}
use Rattle.reads.specs.SetAnswer.{Packed, packed}
use Rattle.plan_record.specs.Record.{slots_of, level_at, parts_of}
use Rattle.words.specs.Pins.{empty}
use Rattle.words.specs.Tests.{lowest, Place}
use Rattle.plan_winners.specs.Planned.{Planned, planned}

-- the bit of a planned position as one number: 32·word + its place, the word having bit 31 set where staged
abbrev pub bit_number : Planned → ℕ
bit_number x = 2 ^ 36 * x.staged + x.place

-- the bits that the pins of level 0 of stage 0 ask for, slot by slot: of an empty slot none
unfoldable pub asked_by : Bool → Option Planned → List ℕ
asked_by true o = []
asked_by false none = []
asked_by false (some x) = bit_number x ∷ []

unfoldable pub asked_to : List ℕ → ℕ → ℕ → List ℕ
asked_to d p zero = []
asked_to d p (suc j) = asked_to d p j ++ asked_by (eqb (level_at d p 0 j) empty) (planned d (level_at d p 0 j))

-- the read set, and what the search makes of it
unfoldable pub read_words : List ℕ → ℕ → List ℕ
read_words d p = read_set_of (asked_to d p (slots_of d))

unfoldable pub part_reads : ℕ → List ℕ → ℕ → Answer Packed
part_reads n d p = packed n (pairs_of (read_words d p))

abbrev pub packed_in : Answer Packed → Packed
packed_in (good x) = x
packed_in (refused q) = record { size = 0; lanes = [] }

abbrev pub part_packed : ℕ → List ℕ → ℕ → Packed
part_packed n d p = packed_in (part_reads n d p)

-- its lanes, and document 02, 2/13: the piece size, "passed up to the part"
abbrev pub part_lanes : ℕ → List ℕ → ℕ → List Lane
part_lanes n d p = (part_packed n d p).lanes

abbrev pub part_size : ℕ → List ℕ → ℕ → ℕ
part_size n d p = (part_packed n d p).size

-- "the local position of the pin's state bit"
abbrev pub or_zero : Option ℕ → ℕ
or_zero none = 0
or_zero (some x) = x

unfoldable pub local_position : List Lane → Option Planned → ℕ
local_position lanes none = 0
local_position lanes (some x) = or_zero (local_of lanes (bit_number x / 32) (bit_number x % 32))

-- 3, 21, 22 and 4: the parts whose read set is refused with that number, at the item of that refusal
unfoldable pub bad_reads : ℕ → Answer Packed → Option ℕ
bad_reads k (good x) = none
bad_reads k (refused q) = elim (eqb q.number k) [ true ↦ some q.item | false ↦ none ]

unfoldable pub refused_reads : ℕ → ℕ → List ℕ → Option Place
refused_reads n k d = lowest (λ p. bad_reads k (part_reads n d p)) (parts_of d)
