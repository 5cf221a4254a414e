-- What stands where in M10's record: a record that is made of words has these words, and each of its lists is read by its index.
-- Assumes nothing.
use mathlib.Core.Path.{◌≡◌, refl, sym, ap, ◌∙◌}
use mathlib.Core.Logic.{⊎_elim}
use mathlib.Core.List.{List, [], ◌∷◌, ◌++◌}
use Prim.Native.Nat.{ℕ, zero, suc, ◌+◌, ◌*◌, ◌-◌, ◌<◌}
use native.Mathlib.Omega.{arith}
use borrow.Author.Tests.{le-leb}
use lib.ListN.{length, get_or, length-append, get_or-append}
use Rattle.words.proofs.BitLaws.{lt_or_ge}
use Rattle.words.specs.Sum.{sum_to}
use Rattle.words.specs.Section.{list_of}
use Rattle.words.proofs.SectionLaws.{length_list_of, get_d_list_of}
use Rattle.plan_record.proofs.RecordLaws.{lanes_other, word_there, word_missing}
use Rattle.plan_record.specs.Record.{plan_lanes, slot_words, design_of, handed_words}
use Rattle.plan_record.specs.Record.{word_at, count_at, parts_before, parts_of, gate_base, layout_base, position_base, head_base, body_at, body_words, locations_in, stages_of, endpoints_of, count_base}
use Rattle.plan_record.specs.Record.{stage_locations, locations_of, slot_base, slot_at, location_base, location_at, table_base, table_at}
use Rattle.promise_decode.proofs.LaneListLaws.{behind}
use Rattle.marked_plan.specs.GatePlan.{bytes_of, record_head, slot_pin, table_word, record_words, gate_record}

-- ---- bytes and words

word_first : (w : ℕ) (ws : List ℕ) → word_at (bytes_of (w ∷ ws)) 0 ≡ w
unfolding word_at bytes_of
word_first w ws = rw (le-leb 4 (length (bytes_of (w ∷ ws))) (omega arith), word_at) (omega arith)

word_past : (a b c e : ℕ) (r : List ℕ) (i : ℕ) → word_at (a ∷ b ∷ c ∷ e ∷ r) (suc i) ≡ word_at r i
word_past a b c e r i =
    ⊎_elim (λ l. word_missing (a ∷ b ∷ c ∷ e ∷ r) (suc i) (omega arith) ∙ sym (word_missing r i l))
    (λ g.
    word_there (a ∷ b ∷ c ∷ e ∷ r) (suc i) (omega arith)
    ∙ rw (past (4 * suc i) (4 * i) (omega arith), past (4 * suc i + 1) (4 * i + 1) (omega arith), past (4 * suc i + 2) (4 * i + 2) (omega arith), past (4 * suc i + 3) (4 * i + 3) (omega arith))
    (sym (word_there r i g)))
    (lt_or_ge (length r) (4 * i + 4))
  where
    past : (m k : ℕ) → m ≡ suc (suc (suc (suc k))) → get_or (a ∷ b ∷ c ∷ e ∷ r) m 0 ≡ get_or r k 0
    past m k q = rw q

pub word_of : (ws : List ℕ) (i : ℕ) → word_at (bytes_of ws) i ≡ get_or ws i 0
unfolding bytes_of
word_of [] i = word_missing [] i (omega arith)
word_of (w ∷ ws) zero = word_first w ws
word_of (w ∷ ws) (suc i) = word_past _ _ _ _ (bytes_of ws) i ∙ word_of ws i

bytes_length : (ws : List ℕ) → length (bytes_of ws) ≡ 4 * length ws
unfolding bytes_of
bytes_length [] = refl
bytes_length (w ∷ ws) = omega (arith, bytes_length ws)

-- ---- lists one behind the other

abbrev slots : List ℕ
slots = list_of (λ i. slot_pin (i + 1)) 16383

abbrev tables : List ℕ
tables = list_of table_word 17664

head_length : length record_head ≡ 20
unfolding record_head
head_length = refl

slots_length : length slots ≡ 16383
slots_length = length_list_of (λ i. slot_pin (i + 1)) 16383

words_length : length record_words ≡ 34068
unfolding record_words
words_length =
    omega (arith, length-append record_head (slots ++ (128 ∷ tables)), length-append slots (128 ∷ tables), head_length, slots_length, length_list_of table_word 17664)

pub record_length : length gate_record ≡ 4 * 34068
unfolding gate_record
record_length = bytes_length record_words ∙ ap (λ (x : ℕ). 4 * x) words_length

head_word : (i : ℕ) → i < 20 → word_at gate_record i ≡ get_or record_head i 0
unfolding gate_record record_words
head_word i l = word_of record_words i ∙ get_or-append record_head (slots ++ (128 ∷ tables)) 0 i (omega (arith, head_length))

behind_head : (i : ℕ) → word_at gate_record (20 + i) ≡ get_or (slots ++ (128 ∷ tables)) i 0
unfolding gate_record record_words
behind_head i = word_of record_words (20 + i) ∙ behind record_head (slots ++ (128 ∷ tables)) 20 i head_length

slot_word : (q : ℕ) → 0 < q → q < 16384 → word_at gate_record (20 + (q - 1)) ≡ slot_pin q
slot_word q some few =
    let e : q - 1 + 1 ≡ q = omega arith in
    behind_head (q - 1)
    ∙ get_or-append slots (128 ∷ tables) 0 (q - 1) (omega (arith, slots_length))
    ∙ get_d_list_of (λ i. slot_pin (i + 1)) 16383 (q - 1) (omega arith)
    ∙ ap slot_pin e

behind_slots : (i : ℕ) → word_at gate_record (16403 + i) ≡ get_or (128 ∷ tables) i 0
behind_slots i =
    let e : 16403 + i ≡ 20 + (16383 + i) = omega arith in
    ap (word_at gate_record) e ∙ behind_head (16383 + i) ∙ behind slots (128 ∷ tables) 16383 i slots_length

table_word_lem : (i : ℕ) → i < 17664 → word_at gate_record (16404 + i) ≡ table_word i
table_word_lem i l =
    let e : 16404 + i ≡ 16403 + suc i = omega arith in
    ap (word_at gate_record) e ∙ behind_slots (suc i) ∙ get_d_list_of table_word 17664 i l

-- ---- the head, number by number

abbrev d : List ℕ
d = gate_record

pub blocks_one : word_at d 0 ≡ 1
unfolding record_head
blocks_one = head_word 0 (omega arith)

pub majors_one : word_at d 1 ≡ 1
unfolding record_head
majors_one = head_word 1 (omega arith)

pub gates_one : word_at d 2 ≡ 1
unfolding record_head
gates_one = head_word 2 (omega arith)

pub layout_two : word_at d 3 ≡ 2
unfolding record_head
layout_two = head_word 3 (omega arith)

pub positions_none : word_at d 4 ≡ 0
unfolding record_head
positions_none = head_word 4 (omega arith)

-- its edition is the full one
pub edition_full : word_at d 5 ≡ 256
unfolding record_head
edition_full = head_word 5 (omega arith)

pub gate_lanes_lem : plan_lanes d ≡ 256
gate_lanes_lem = sym (lanes_other d 256 (sym edition_full) (λ e. omega arith))

-- one design, and no check
pub second_gates_lem : word_at d 6 ≡ 0
unfolding record_head
second_gates_lem = head_word 6 (omega arith)

pub second_layout_lem : word_at d 7 ≡ 0
unfolding record_head
second_layout_lem = head_word 7 (omega arith)

pub check_none : word_at d 8 ≡ 0
unfolding record_head
check_none = head_word 8 (omega arith)

pub parts_one : count_at d 0 ≡ 1
unfolding record_head
parts_one = head_word 9 (omega arith)

pub none_earlier : parts_before d 0 ≡ 0
unfolding parts_before sum_to
none_earlier = refl

pub one_earlier : parts_before d 1 ≡ 1
unfolding parts_before sum_to
one_earlier = rw parts_one

pub one_part : parts_of d ≡ 1
one_part = rw (majors_one, one_earlier)

pub gate_base_lem : gate_base d ≡ 10
unfolding gate_base
gate_base_lem = rw majors_one

pub gate_pin_lem : word_at d 10 ≡ 3
unfolding record_head
gate_pin_lem = head_word 10 (omega arith)

pub gate_first_lem : word_at d 11 ≡ 2
unfolding record_head
gate_first_lem = head_word 11 (omega arith)

pub gate_second_lem : word_at d 12 ≡ 5
unfolding record_head
gate_second_lem = head_word 12 (omega arith)

pub layout_base_lem : layout_base d ≡ 13
unfolding layout_base
layout_base_lem = rw (gate_base_lem, gates_one)

pub layout_first : word_at d 13 ≡ 1
unfolding record_head
layout_first = head_word 13 (omega arith)

pub layout_second : word_at d 14 ≡ 2
unfolding record_head
layout_second = head_word 14 (omega arith)

pub position_base_lem : position_base d ≡ 15
unfolding position_base
position_base_lem = rw (layout_base_lem, layout_two)

head_base_lem : head_base d ≡ 15
unfolding head_base
head_base_lem = rw (position_base_lem, positions_none)

-- ---- the part

pub stages_one : stages_of d 0 ≡ 1
unfolding record_head
stages_one = rw head_base_lem (head_word 15 (omega arith))

pub endpoints_none : endpoints_of d 0 ≡ 0
unfolding record_head
endpoints_none = rw head_base_lem (head_word 16 (omega arith))

-- of the first design, and without lanes handed in
pub design_first : design_of d 0 ≡ 0
unfolding record_head
design_first = rw head_base_lem (head_word 17 (omega arith))

pub handed_none : handed_words d 0 ≡ 0
unfolding record_head
handed_none = rw head_base_lem (head_word 18 (omega arith))

body_first : body_at d 0 ≡ 19
unfolding body_at
body_first = rw (head_base_lem, one_part)

count_base_lem : count_base d 0 ≡ 19
unfolding count_base
count_base_lem = rw (body_first, endpoints_none)

location_count : word_at d 19 ≡ 1
unfolding record_head
location_count = head_word 19 (omega arith)

pub stage_location : stage_locations d 0 0 ≡ 1
stage_location = rw (count_base_lem, location_count)

locations_in_lem : locations_in d 19 1 0 ≡ 1
unfolding locations_in sum_to
locations_in_lem = rw location_count

pub locations_one : locations_of d 0 ≡ 1
locations_one = rw (body_first, stages_one, endpoints_none, locations_in_lem)

slot_base_lem : slot_base d 0 ≡ 20
unfolding slot_base
slot_base_lem = rw (count_base_lem, stages_one)

location_base_lem : location_base d 0 ≡ 16403
unfolding location_base slot_words
location_base_lem = rw (gate_lanes_lem, slot_base_lem, stages_one)

table_base_lem : table_base d 0 ≡ 16404
unfolding table_base
table_base_lem = rw (location_base_lem, locations_one)

pub body_end : body_at d 1 ≡ 34068
unfolding body_at body_words slot_words
body_end = rw (gate_lanes_lem, body_first, stages_one, endpoints_none, locations_in_lem)

pub slot_is : (q : ℕ) → 0 < q → q < 16384 → slot_at d 0 0 q ≡ slot_pin q
unfolding slot_words
slot_is q some few = rw (gate_lanes_lem, slot_base_lem) (slot_word q some few)

pub location_is : location_at d 0 0 ≡ 128
location_is = rw location_base_lem (behind_slots 0)

pub table_is : (i : ℕ) → i < 17664 → table_at d 0 i ≡ table_word i
table_is i l = rw table_base_lem (table_word_lem i l)
