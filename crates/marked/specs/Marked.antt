-- The marked small set as one list with one claim: what the definitions give is what document 01 says, and of piece sizes document 02 (2/13).
-- Assumes nothing.
use Rattle.std.specs.Prelude.{◌≡◌, List, [], ◌∷◌, ◌++◌, ℕ, ◌^◌, length}
use Rattle.reads.specs.ReadSet.{Pair, pairs_of}
use Rattle.marked_plan.specs.GateRun.{gate_answer, ran_seen}
use Rattle.marked.specs.Reads.{alike, bit_asked, read_rounds, tries_seen, placed_within}
use Rattle.marked.specs.Plans.{duplicate_words, blocks_of_parts, starts_of_parts}
use Rattle.marked.specs.Scripts.{locations_seen, entry_seen}

-- what the definitions give, and what the documents say
pub record Example : Type 0 where
  pub got : List ℕ
  pub said : List ℕ

-- M5's set
abbrev pub five_words : List ℕ
five_words = alike 256 0 1 ++ (256 ∷ 4294967295 ∷ [])

abbrev pub five_pairs : List Pair
five_pairs = pairs_of five_words

-- a set of 8192 bits that the search misses: 255 and 256 fill a lane, and so do 254, 257 and 258
abbrev pub missed_words : List ℕ
missed_words = alike 254 0 4294967295 ++ (254 ∷ 1023 ∷ 255 ∷ 65535 ∷ 256 ∷ 65535 ∷ 257 ∷ 2047 ∷ 258 ∷ 2047 ∷ [])

-- M1 to M9, which are computed
unfoldable pub computed : List Example
computed =
    -- M1 empty read set: 3
    record { got = read_rounds [] []; said = 0 ∷ 3 ∷ 0 ∷ [] }
    -- M2 the listing's set: local positions 1, 0, 32, 64; all three pairs at once
    ∷ record {
      got = read_rounds (0 ∷ 3 ∷ 1 ∷ 32 ∷ 2 ^ 31 ∷ 1 ∷ []) (bit_asked 0 0 ∷ bit_asked 0 1 ∷ bit_asked 1 5 ∷ bit_asked (2 ^ 31) 0 ∷ []);
      said = 1 ∷ 3 ∷ 1 ∷ 0 ∷ 32 ∷ 64 ∷ [];
    }
    -- M3 256 words of 17 bits: one each, all at once
    ∷ record { got = read_rounds (alike 256 0 131071) (bit_asked 0 16 ∷ bit_asked 1 16 ∷ bit_asked 255 16 ∷ []); said = 1 ∷ 256 ∷ 0 ∷ 32 ∷ 8160 ∷ [] }
    -- M4 257 of them: by 4/13 "M4 now reads 22"
    ∷ record { got = read_rounds (alike 257 0 131071) []; said = 0 ∷ 22 ∷ 0 ∷ [] }
    -- and one for 4: words 0..253 of 32 bits, 254 of 10, 255 and 256 of 16, 257 and 258 of 11. The try of size 1 stops at word 254
    ∷ record { got = read_rounds missed_words []; said = 0 ∷ 4 ∷ 254 ∷ [] }
    -- M5 words 0..255 of one bit, word 256 of 32 bits: sizes 257, 128, 64, 32 end, 16 wins; word 256 in lane 0, word 255 in lane 1 round 1; rounds 2;
    -- "M5 then reports 16"
    ∷ record { got = tries_seen five_pairs 5 (length five_pairs); said = 257 ∷ 0 ∷ 128 ∷ 0 ∷ 64 ∷ 0 ∷ 32 ∷ 0 ∷ 16 ∷ 1 ∷ [] }
    ∷ record { got = placed_within five_pairs 4 ∷ []; said = 0 ∷ [] }
    ∷ record {
      got = read_rounds five_words (bit_asked 256 31 ∷ bit_asked 256 0 ∷ bit_asked 255 0 ∷ bit_asked 0 0 ∷ []);
      said = 2 ∷ 16 ∷ 0 ∷ 31 ∷ 32 ∷ 33 ∷ [];
    }
    -- M6 stage 0 locations 1, 2, stage 1 location 3: 0x00020001, 0xFFFF0103
    ∷ record { got = locations_seen; said = 0x00020001 ∷ 0xFFFF0103 ∷ [] }
    -- M7 output 10, staged 5, DFF d=10 en=1, output 11: one duplicate word
    ∷ record { got = duplicate_words; said = 1 ∷ [] }
    -- M8 two blocks, stages 4, 2, 1, 1: blocks (0,3), (1,2); with 40 inputs and one word each, starts 2, 4, 5, 3 by part
    ∷ record { got = blocks_of_parts; said = 0 ∷ 1 ∷ 1 ∷ 0 ∷ [] }
    ∷ record { got = starts_of_parts; said = 2 ∷ 4 ∷ 5 ∷ 3 ∷ [] }
    -- M9 entry 33: word 4, high half
    ∷ record { got = entry_seen; said = 4 ∷ 1 ∷ 33 ∷ [] }
    ∷ []

-- M10 pins 1, 2 at state 0, 1; gate 3 = 1 and not 2 at level 1 slot 0, location 128: old word 1 stores 1, old word 3 stores 0xFFFFFFFE. The run of its plan's
-- script is not refused (1), no turns are left (0), and the new state's second word is what is stored
unfoldable pub gate_runs : List Example
gate_runs =
    record { got = ran_seen (gate_answer 1); said = 1 ∷ 0 ∷ 0 ∷ 1 ∷ [] }
    ∷ record { got = ran_seen (gate_answer 3); said = 1 ∷ 0 ∷ 0 ∷ 0xFFFFFFFE ∷ [] }
    ∷ []

-- the whole set
unfoldable pub marked : List Example
marked = computed ++ gate_runs

unfoldable pub given : List Example → List (List ℕ)
given [] = []
given (e ∷ es) = e.got ∷ given es

unfoldable pub told : List Example → List (List ℕ)
told [] = []
told (e ∷ es) = e.said ∷ told es

-- THE CLAIM
abbrev pub MarkedRight : Type 0
MarkedRight = given marked ≡ told marked
