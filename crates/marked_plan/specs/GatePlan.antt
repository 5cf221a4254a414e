-- M10's plan, as a record: "pins 1, 2 at state 0, 1; gate 3 = 1 and not 2 at level 1 slot 0, location 128". And the plan of no parts.
-- Assumes nothing.
use Rattle.std.specs.Prelude.{true, false, List, [], ◌∷◌, ◌++◌, ℕ, ◌+◌, ◌/◌, ◌%◌, ltb, eqb}
use Rattle.words.specs.Pins.{empty}
use Rattle.words.specs.Section.{list_of}

-- the bytes of words, the lowest first
unfoldable pub bytes_of : List ℕ → List ℕ
bytes_of [] = []
bytes_of (w ∷ ws) = (w % 256) ∷ (w / 256 % 256) ∷ (w / 65536 % 256) ∷ (w / 16777216) ∷ bytes_of ws

-- one block, one major stage, one gate, an input layout of two, no positions, the full edition; one part; gate 3 = 1 and not 2; pins 1, 2 at state 0, 1;
-- the part has one stage and no endpoints; its stage has one location
unfoldable pub record_head : List ℕ
record_head = 1 ∷ 1 ∷ 1 ∷ 2 ∷ 0 ∷ 256 ∷ 0 ∷ 0 ∷ 0 ∷ 1 ∷ 3 ∷ 2 ∷ 5 ∷ 1 ∷ 2 ∷ 1 ∷ 0 ∷ 0 ∷ 0 ∷ 1 ∷ []

-- the pin at index q: pin 3 at position 4096, which is level 1 slot 0; below it pins 1 and 2, in slots 0 and 4096 of level 0
unfoldable pub slot_pin : ℕ → ℕ
slot_pin q = elim (eqb q 4096) [ true ↦ 3 | false ↦ elim (eqb q 8192) [ true ↦ 1 | false ↦ elim (eqb q 12288) [ true ↦ 2 | false ↦ empty ] ] ]

-- the tables hold zeros, but for inv and set0 of the enable table, which are 1 throughout: by 5/13 every bit is enabled
unfoldable pub table_word : ℕ → ℕ
table_word i = elim (ltb i 16896) [ true ↦ 0 | false ↦ elim (ltb i 17408) [ true ↦ 0xFFFFFFFF | false ↦ 0 ] ]

-- head, slots 1..16383, location, tables
unfoldable pub record_words : List ℕ
record_words = record_head ++ (list_of (λ i. slot_pin (i + 1)) 16383 ++ (128 ∷ list_of table_word 17664))

unfoldable pub gate_record : List ℕ
gate_record = bytes_of record_words

-- a plan of one block, one major stage and no parts, of the full edition: the nine words of its head, and its count of parts
unfoldable pub no_parts : List ℕ
no_parts = bytes_of (1 ∷ 1 ∷ 0 ∷ 0 ∷ 0 ∷ 256 ∷ 0 ∷ 0 ∷ 0 ∷ 0 ∷ [])
