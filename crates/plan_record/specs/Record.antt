-- The plan record: little-endian 32-bit words in a byte list, and what stands where. Every number of a plan is read through these definitions.
-- n is the number of lanes of the plan's edition. Words that are 0 have their meaning by requests of document 02 still to come: Form.antt.
--
--   9 words           blocks, major stages S, gates G, input layout length I, positions P, edition (its number of lanes n, 256 or 128); then 0, 0, 0:
--                     gates and input layout length of a second design, the check
--   S                 parts of each major stage; N is their sum
--   3·G               gate: pin, first fan-in, second fan-in (inverted pin numbers)
--   I                 input layout: a pin, or the empty pin
--   4·P               position: pin, state position, 0 unstaged or 1 staged, design (0)
--   4·N               part head: boomerang stages m, endpoints e, design (0), words of lanes handed in (0)
--   then each part's body:
--   4·e               endpoint: kind, x, y, output pin (not looked at)
--   m                 locations of each stage; their sum is the part's number of locations
--   (64n − 1)·m       slots of each stage by index 1..64n − 1: positions 1..32n − 1, then slot j of level 0 at index 32n + j
--   one a location    locations, stage by stage
--   34·n              SRAM and duplicate table: 32n entries, n inv, n set0
--   35·n              enable table: 32n entries, n inv, n set0, n data inv
-- Assumes nothing.
use Rattle.std.specs.Prelude.{true, false, List, ℕ, zero, suc, ◌+◌, ◌*◌, ◌-◌, leb, eqb, length, get_or}
use Rattle.words.specs.Sum.{sum_to}

-- word i of a record, the lowest byte first; 0 where the record does not have the whole of it
unfoldable pub word_at : List ℕ → ℕ → ℕ
word_at d i =
    elim (leb (4 * i + 4) (length d)) [
      | true ↦ get_or d (4 * i) 0 + 256 * get_or d (4 * i + 1) 0 + 65536 * get_or d (4 * i + 2) 0 + 16777216 * get_or d (4 * i + 3) 0
      | false ↦ 0
    ]

-- ---- how many words the head has, a position, a part's head and an endpoint

abbrev pub head_words : ℕ
head_words = 9

abbrev pub position_words : ℕ
position_words = 4

abbrev pub part_head_words : ℕ
part_head_words = 4

abbrev pub endpoint_words : ℕ
endpoint_words = 4

-- the slots of one stage, and the two tables of a part, with n lanes
unfoldable pub slot_words : ℕ → ℕ
slot_words n = 64 * n - 1

abbrev pub table_words : ℕ → ℕ
table_words n = 69 * n

-- ---- the head

abbrev pub blocks_of : List ℕ → ℕ
blocks_of d = word_at d 0

abbrev pub majors_of : List ℕ → ℕ
majors_of d = word_at d 1

abbrev pub gates_of : List ℕ → ℕ
gates_of d = word_at d 2

abbrev pub layout_of : List ℕ → ℕ
layout_of d = word_at d 3

abbrev pub positions_of : List ℕ → ℕ
positions_of d = word_at d 4

-- the number that names the edition: where it names none, the plan is refused by 29
abbrev pub edition_of : List ℕ → ℕ
edition_of d = word_at d 5

-- the gates and the input layout length of a second design, and the check
abbrev pub second_gates : List ℕ → ℕ
second_gates d = word_at d 6

abbrev pub second_layout : List ℕ → ℕ
second_layout d = word_at d 7

abbrev pub check_of : List ℕ → ℕ
check_of d = word_at d 8

-- ---- the lanes

-- the lanes of the plan's edition; a number that names none is read as the full edition's
unfoldable pub plan_lanes : List ℕ → ℕ
plan_lanes d = elim (eqb (edition_of d) 128) [ true ↦ 128 | false ↦ 256 ]

-- the slots of level 0: 32 to a lane
abbrev pub slots_of : List ℕ → ℕ
slots_of d = 32 * plan_lanes d

-- ---- parts of the major stages: parts are counted on through the major stages

abbrev pub count_at : List ℕ → ℕ → ℕ
count_at d s = word_at d (head_words + s)

-- the parts of the major stages before s
unfoldable pub parts_before : List ℕ → ℕ → ℕ
parts_before d s = sum_to (count_at d) s

abbrev pub parts_of : List ℕ → ℕ
parts_of d = parts_before d (majors_of d)

-- ---- gates

unfoldable pub gate_base : List ℕ → ℕ
gate_base d = head_words + majors_of d

abbrev pub gate_pin : List ℕ → ℕ → ℕ
gate_pin d g = word_at d (gate_base d + 3 * g)

abbrev pub gate_first : List ℕ → ℕ → ℕ
gate_first d g = word_at d (gate_base d + 3 * g + 1)

abbrev pub gate_second : List ℕ → ℕ → ℕ
gate_second d g = word_at d (gate_base d + 3 * g + 2)

-- ---- input layout and positions

unfoldable pub layout_base : List ℕ → ℕ
layout_base d = gate_base d + 3 * gates_of d

abbrev pub layout_pin : List ℕ → ℕ → ℕ
layout_pin d i = word_at d (layout_base d + i)

unfoldable pub position_base : List ℕ → ℕ
position_base d = layout_base d + layout_of d

abbrev pub position_pin : List ℕ → ℕ → ℕ
position_pin d i = word_at d (position_base d + position_words * i)

abbrev pub position_state : List ℕ → ℕ → ℕ
position_state d i = word_at d (position_base d + position_words * i + 1)

abbrev pub position_staged : List ℕ → ℕ → ℕ
position_staged d i = word_at d (position_base d + position_words * i + 2)

abbrev pub position_design : List ℕ → ℕ → ℕ
position_design d i = word_at d (position_base d + position_words * i + 3)

-- ---- parts

unfoldable pub head_base : List ℕ → ℕ
head_base d = position_base d + position_words * positions_of d

abbrev pub stages_of : List ℕ → ℕ → ℕ
stages_of d p = word_at d (head_base d + part_head_words * p)

abbrev pub endpoints_of : List ℕ → ℕ → ℕ
endpoints_of d p = word_at d (head_base d + part_head_words * p + 1)

-- the part's design, and how many words of its body are lanes handed in
abbrev pub design_of : List ℕ → ℕ → ℕ
design_of d p = word_at d (head_base d + part_head_words * p + 2)

abbrev pub handed_words : List ℕ → ℕ → ℕ
handed_words d p = word_at d (head_base d + part_head_words * p + 3)

-- the words of a body at word b, with m stages and e endpoints: how many locations it has, and how long it is
unfoldable pub locations_in : List ℕ → ℕ → ℕ → ℕ → ℕ
locations_in d b m e = sum_to (λ s. word_at d (b + endpoint_words * e + s)) m

unfoldable pub body_words : List ℕ → ℕ → ℕ → ℕ → ℕ
body_words d b m e = endpoint_words * e + m + slot_words (plan_lanes d) * m + locations_in d b m e + table_words (plan_lanes d)

-- where the body of part p begins
unfoldable pub body_at : List ℕ → ℕ → ℕ
body_at d zero = head_base d + part_head_words * parts_of d
body_at d (suc p) = body_at d p + body_words d (body_at d p) (stages_of d p) (endpoints_of d p)

-- word k of endpoint i of part p: the kind, x and y; Endpoint.antt says what they stand for
abbrev pub endpoint_word : List ℕ → ℕ → ℕ → ℕ → ℕ
endpoint_word d p i k = word_at d (body_at d p + endpoint_words * i + k)

-- the locations of stage s of part p, and of all its stages
unfoldable pub count_base : List ℕ → ℕ → ℕ
count_base d p = body_at d p + endpoint_words * endpoints_of d p

abbrev pub stage_locations : List ℕ → ℕ → ℕ → ℕ
stage_locations d p s = word_at d (count_base d p + s)

abbrev pub locations_of : List ℕ → ℕ → ℕ
locations_of d p = locations_in d (body_at d p) (stages_of d p) (endpoints_of d p)

-- the pin at index q of stage s of part p, for q in 1..64n − 1
unfoldable pub slot_base : List ℕ → ℕ → ℕ
slot_base d p = count_base d p + stages_of d p

abbrev pub slot_at : List ℕ → ℕ → ℕ → ℕ → ℕ
slot_at d p s q = word_at d (slot_base d p + slot_words (plan_lanes d) * s + (q - 1))

-- the pin of slot j of level 0
abbrev pub level_at : List ℕ → ℕ → ℕ → ℕ → ℕ
level_at d p s j = slot_at d p s (slots_of d + j)

-- location l of part p, counted over its stages
unfoldable pub location_base : List ℕ → ℕ → ℕ
location_base d p = slot_base d p + slot_words (plan_lanes d) * stages_of d p

abbrev pub location_at : List ℕ → ℕ → ℕ → ℕ
location_at d p l = word_at d (location_base d p + l)

-- word i of the two tables of part p: SRAM and duplicate entries from 0, inv from 32n, set0 from 33n; enable entries from 34n, inv from
-- 66n, set0 from 67n, data inv from 68n
unfoldable pub table_base : List ℕ → ℕ → ℕ
table_base d p = location_base d p + locations_of d p

abbrev pub table_at : List ℕ → ℕ → ℕ → ℕ
table_at d p i = word_at d (table_base d p + i)
