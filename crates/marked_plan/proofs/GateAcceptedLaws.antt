-- M10's plan is accepted: each refusal is gone through, and of the 8192 slots and 16384 table entries only three slots hold a pin. The plan of no parts is
-- accepted by computing.
-- Assumes nothing.
use mathlib.Core.Path.{◌≡◌, refl, sym, ap, ◌∙◌, subst}
use mathlib.Core.Logic.{⊎_elim}
use mathlib.Core.Bool.{Bool, true, false, not}
use mathlib.Core.Option.{Option, none, some}
use mathlib.Core.List.{List, [], ◌∷◌, ◌++◌, append-nil}
use Prim.Native.Nat.{ℕ, zero, suc, ◌+◌, ◌*◌, ◌/◌, ◌%◌, ◌≤◌, ◌<◌}
use native.Mathlib.Omega.{arith}
use borrow.Author.Tests.{lt-ltb, ne_eqb}
use lib.Dec.{ltb, eqb}
use lib.ListN.{replicate}
use Rattle.words.proofs.BitLaws.{lt_or_ge}
use Rattle.words.specs.Edition.{known}
use Rattle.words.specs.Pins.{empty}
use Rattle.words.specs.Sum.{sum_to}
use Rattle.words.specs.Tests.{all_below, first_from, first_not, lowest_from, lowest}
use Rattle.words.proofs.TestLaws.{none_not, not_is, some_false}
use Rattle.plan_record.specs.Record.{word_at, parts_before, gate_base, layout_base, position_base, head_base, body_at, parts_of, plan_lanes, slots_of, slot_at, level_at, table_at, gate_pin, gate_first, gate_second, locations_of, location_at, layout_pin}
use Rattle.plan_record.specs.Form.{rest_form, head_form, counts_form, part_head_form, length_form, gate_form, layout_form, lists_form, plan_form}
use Rattle.gatelist.specs.GateList.{before_over, right_over, bad_over, gate_over}
use Rattle.reads.specs.ReadSet.{pairs_of, pairs_from, total}
use Rattle.reads.specs.Search.{Lane, pieces_in, insert_piece, ordered, joined, first_room, try_from, first_win}
use Rattle.reads.specs.Asked.{ask, read_set_of}
use Rattle.reads.specs.SetAnswer.{Packed, packed, searched}
use Rattle.reads.specs.Packing.{weigh, wide_mask}
use Rattle.words.specs.Answer.{good}
use Rattle.words.specs.Bit.{pop_in, with_bit}
use Rattle.plan_gates.specs.Gates.{bad_gate, gate_of}
use Rattle.plan_counts.specs.Counts.{activations_to, different, duplicates_in, write_outs, bad_counts, refusal7}
use Rattle.plan_blocks.specs.Blocks.{state_of, sram_of, state_words, totals_fit}
use Rattle.plan_blocks.proofs.TotalLaws.{same_or}
use Rattle.plan_slots.specs.Slots.{top_below, feeds, pin_right, slot_right, nine_right, bad_item, refusal9, ten_right, refusal10, reads_pin, eleven_right, refusal11}
use Rattle.plan_slots.proofs.SlotLaws.{ten_first}
use Rattle.plan_winners.specs.Planned.{Planned, last_below, in_layout, in_positions, planned}
use Rattle.plan_entries.specs.TableEntries.{thirteen_right, refusal13}
use Rattle.plan_entries.proofs.TableEntryLaws.{entry_low, entry_high}
use Rattle.plan_positions.specs.Positions.{position_right, twelve_right, refusal12}
use Rattle.plan_reads.specs.PartReads.{asked_by, asked_to, read_words, part_reads, bad_reads, refused_reads}
use Rattle.plan_refusals.specs.Refusals.{plan_refusal}
use Rattle.promise.specs.Promise.{Accepted}
use Rattle.marked_plan.specs.GatePlan.{bytes_of, slot_pin, table_word, gate_record, no_parts}
use Rattle.marked_plan.proofs.GateRecordLaws.{edition_full, gate_lanes_lem, second_gates_lem, second_layout_lem, check_none, record_length, blocks_one, majors_one, gates_one, layout_two, positions_none, parts_one, none_earlier, one_earlier, one_part, gate_base_lem, gate_pin_lem}
use Rattle.marked_plan.proofs.GateRecordLaws.{gate_first_lem, gate_second_lem, layout_base_lem, layout_first, layout_second, stages_one, endpoints_none, design_first, handed_none, locations_one, body_end, slot_is, location_is, table_is}

abbrev d : List ℕ
d = gate_record

-- ---- 5

head_right : head_form d ≡ true
unfolding head_form rest_form
head_right = rw (blocks_one, majors_one, layout_two, positions_none, second_gates_lem, second_layout_lem, check_none)

counts_right_lem : counts_form d ≡ true
unfolding counts_form all_below
counts_right_lem = rw (majors_one, parts_one)

part_head_right : all_below (part_head_form d) (parts_of d) ≡ true
unfolding all_below part_head_form
part_head_right = rw (one_part, stages_one, endpoints_none, design_first, handed_none)

length-right : length_form d ≡ true
unfolding length_form
length-right = rw (one_part, body_end, record_length)

lists_right : lists_form d ≡ true
unfolding lists_form all_below gate_form layout_form
lists_right = rw (one_part, endpoints_none, gates_one, layout_two, positions_none, gate_base_lem, gate_pin_lem, gate_first_lem, gate_second_lem, layout_base_lem, layout_first, layout_second)

form_right : plan_form d ≡ true
unfolding plan_form
form_right = rw (head_right, counts_right_lem, part_head_right, length-right, lists_right)

-- ---- 6, 7, 8

one_test : (f : ℕ → Bool) → f 0 ≡ true → first_not f 1 ≡ none
one_test f e = none_not f 1 (λ j l. let z : j ≡ 0 = omega arith in ap f z ∙ e)

gate_right_lem : right_over (gate_pin d) (gate_first d) (gate_second d) 0 ≡ true
unfolding right_over before_over
gate_right_lem = rw (gate_base_lem, gate_pin_lem, gate_first_lem, gate_second_lem)

gates_right : bad_gate d ≡ none
unfolding bad_gate bad_over
gates_right = rw gates_one (one_test (right_over (gate_pin d) (gate_first d) (gate_second d)) gate_right_lem)

pub no_duplicates : duplicates_in (activations_to d 0 0) ≡ 0
unfolding activations_to different duplicates_in
no_duplicates = refl

pub write_outs_one : write_outs d 0 ≡ 1
unfolding write_outs sum_to
write_outs_one = rw (locations_one, endpoints_none, no_duplicates)

lowest_one : (bad : ℕ → Option ℕ) → bad 0 ≡ none → lowest bad 1 ≡ none
unfolding lowest_from
lowest_one bad e = rw (e, lowest_from)

one_of : (bad : ℕ → Option ℕ) → bad 0 ≡ none → lowest bad (parts_of d) ≡ none
one_of bad e = ap (lowest bad) one_part ∙ lowest_one bad e

counts_fine : bad_counts d 0 ≡ none
unfolding bad_counts
counts_fine =
    let located : first_not (λ l. ltb (location_at d 0 l) (plan_lanes d)) (locations_of d 0) ≡ none =
    rw locations_one (one_test (λ l. ltb (location_at d 0 l) (plan_lanes d)) (rw (location_is, gate_lanes_lem))) in
    rw (located, write_outs_one, gate_lanes_lem, bad_counts)

seven : refusal7 d ≡ none
unfolding refusal7
seven = one_of (bad_counts d) counts_fine

pub state_first : state_of d 0 ≡ 1
unfolding state_of sum_to
state_first = rw (layout_two, none_earlier)

pub state_two : state_words d ≡ 2
unfolding state_of sum_to
state_two = rw (majors_one, one_earlier, layout_two, write_outs_one)

sram_none : sram_of d 1 ≡ 0
unfolding sram_of sum_to
sram_none = rw (one_earlier, endpoints_none)

eight : totals_fit d ≡ true
unfolding totals_fit
eight = rw (state_two, majors_one, sram_none)

-- ---- the slots: of the indices 1..16383 three hold a pin

pub pin_three : slot_at d 0 0 4096 ≡ 3
unfolding slot_pin
pin_three = slot_is 4096 (omega arith) (omega arith)

pub pin_one : slot_at d 0 0 8192 ≡ 1
unfolding slot_pin
pin_one = slot_is 8192 (omega arith) (omega arith)

pub pin_two : slot_at d 0 0 12288 ≡ 2
unfolding slot_pin
pin_two = slot_is 12288 (omega arith) (omega arith)

-- level 0 begins at index 8192
at_level : (j : ℕ) → level_at d 0 0 j ≡ slot_at d 0 0 (8192 + j)
at_level j = let e : slots_of d + j ≡ 8192 + j = omega (arith, gate_lanes_lem) in ap (slot_at d 0 0) e

pub level_one : level_at d 0 0 0 ≡ 1
level_one = at_level 0 ∙ pin_one

pub level_two : level_at d 0 0 4096 ≡ 2
level_two = at_level 4096 ∙ pin_two

pin_none : (q : ℕ) → 0 < q → q < 16384 → (q ≡ 4096 → ⊥) → (q ≡ 8192 → ⊥) → (q ≡ 12288 → ⊥) → slot_at d 0 0 q ≡ empty
unfolding slot_pin
pin_none q a b x y z = slot_is q a b ∙ rw (ne_eqb q 4096 x, ne_eqb q 8192 y, ne_eqb q 12288 z, slot_pin)

-- items 0 and 4096 have pins, and no other
pub each : (P : ℕ → Type 0) → P 0 → P 4096 → ((x : ℕ) → x < 8192 → (x ≡ 0 → ⊥) → (x ≡ 4096 → ⊥) → P x) → (x : ℕ) → x < 8192 → P x
each P first second other x l =
    ⊎_elim (λ e. subst P (sym e) first) (λ e. ⊎_elim (λ f. subst P (sym f) second) (λ f. other x l e f) (same_or x 4096)) (same_or x 0)

pub below_empty : (x : ℕ) → x < 8192 → (x ≡ 0 → ⊥) → (x ≡ 4096 → ⊥) → level_at d 0 0 x ≡ empty
below_empty x l a b = at_level x ∙ pin_none (8192 + x) (omega arith) (omega arith) (λ e. omega arith) (λ e. a (omega arith)) (λ e. b (omega arith))

pub above_empty : (x : ℕ) → x < 8192 → (x ≡ 0 → ⊥) → (x ≡ 4096 → ⊥) → slot_at d 0 0 x ≡ empty
above_empty x l a b = pin_none x (omega (arith, a)) (omega arith) b (λ e. omega arith) (λ e. omega arith)

items_right : (right : ℕ → ℕ → Bool) → ((x : ℕ) → x < 8192 → right 0 x ≡ true) → bad_item d right 0 ≡ none
unfolding bad_item
items_right right h = rw (gate_lanes_lem, stages_one) (none_not (λ i. right (i / 8192) (i % 8192)) 8192 item)
  where
    item : (i : ℕ) → i < 8192 → right (i / 8192) (i % 8192) ≡ true
    item i l =
        let stage : i / 8192 ≡ 0 = omega arith in
        let same : i % 8192 ≡ i = omega arith in
        rw (stage, same) (h i l)

-- ---- 9, 10, 11

pub gate_three_lem : gate_of d 3 ≡ some 0
unfolding gate_of gate_over
gate_three_lem = rw gates_one (not_is (λ g. not (eqb (gate_pin d g) 3)) 1 0 (omega arith) (rw (gate_base_lem, gate_pin_lem)) (λ j l. absurd (omega arith)))

slot_gate : slot_right d 0 0 4096 ≡ true
unfolding slot_right top_below feeds
slot_gate = rw (pin_three, pin_one, pin_two, gate_three_lem, gate_base_lem, gate_first_lem, gate_second_lem)

nine_other : (x : ℕ) → x < 8192 → (x ≡ 0 → ⊥) → (x ≡ 4096 → ⊥) → nine_right d 0 0 x ≡ true
unfolding nine_right pin_right slot_right
nine_other x l a b = rw (below_empty x l a b, above_empty x l a b, ne_eqb x 0 a)

nine_first : nine_right d 0 0 0 ≡ true
unfolding nine_right pin_right
nine_first = rw level_one

nine_gate : nine_right d 0 0 4096 ≡ true
unfolding nine_right pin_right
nine_gate = rw (level_two, slot_gate)

nine : refusal9 d ≡ none
unfolding refusal9
nine = one_of (λ p. bad_item d (nine_right d p) p) (items_right (nine_right d 0) (each (λ x. nine_right d 0 0 x ≡ true) nine_first nine_gate nine_other))

ten : refusal10 d ≡ none
unfolding refusal10
ten = one_of (λ p. bad_item d (ten_right d p) p) (items_right (ten_right d 0) (λ x l. ten_first d 0 x))

three_unread : reads_pin d 0 3 ≡ false
unfolding reads_pin
three_unread =
    some_false (λ j. eqb (level_at d 0 0 j) 3) (slots_of d)
    (λ j l. each (λ j. eqb (level_at d 0 0 j) 3 ≡ false) (rw level_one) (rw level_two) (λ x l a b. rw (below_empty x l a b)) j (omega (arith, gate_lanes_lem)))

eleven_first : eleven_right d 0 0 0 ≡ true
unfolding eleven_right
eleven_first = refl

eleven_gate : eleven_right d 0 0 4096 ≡ true
unfolding eleven_right top_below
eleven_gate = rw (pin_three, pin_one, three_unread)

eleven_other : (x : ℕ) → x < 8192 → (x ≡ 0 → ⊥) → (x ≡ 4096 → ⊥) → eleven_right d 0 0 x ≡ true
unfolding eleven_right
eleven_other x l a b = rw (ne_eqb x 0 a, above_empty x l a b)

eleven : refusal11 d ≡ none
unfolding refusal11
eleven = one_of (λ p. bad_item d (eleven_right d p) p) (items_right (eleven_right d 0) (each (λ x. eleven_right d 0 0 x ≡ true) eleven_first eleven_gate eleven_other))

-- ---- 12, 13

no_positions : (k x : ℕ) → in_positions d k x ≡ none
unfolding in_positions last_below
no_positions k x = rw positions_none

last_here : (f : ℕ → Bool) (n : ℕ) → f n ≡ true → last_below f (suc n) ≡ some n
unfolding last_below
last_here f n e = rw (e, last_below)

last_on : (f : ℕ → Bool) (n : ℕ) → f n ≡ false → last_below f (suc n) ≡ last_below f n
unfolding last_below
last_on f n e = rw (e, last_below)

laid_one : in_layout d 1 ≡ some 0
unfolding in_layout
laid_one =
    let f : ℕ → Bool = λ i. eqb (layout_pin d i) 1 in
    rw layout_two (last_on f 1 (rw (layout_base_lem, layout_second)) ∙ last_here f 0 (rw (layout_base_lem, layout_first)))

laid_two : in_layout d 2 ≡ some 1
unfolding in_layout
laid_two = rw layout_two (last_here (λ i. eqb (layout_pin d i) 2) 1 (rw (layout_base_lem, layout_second)))

pub planned_one : planned d 1 ≡ some (record { staged = 0; place = 0 })
unfolding planned
planned_one = rw (no_positions 0 1, laid_one, planned)

pub planned_two : planned d 2 ≡ some (record { staged = 0; place = 1 })
unfolding planned
planned_two = rw (no_positions 0 2, laid_two, planned)

twelve_first : twelve_right d 0 0 ≡ true
unfolding twelve_right position_right
twelve_first = rw (level_one, planned_one, state_two)

twelve_second : twelve_right d 0 4096 ≡ true
unfolding twelve_right position_right
twelve_second = rw (level_two, planned_two, state_two)

twelve_other : (x : ℕ) → x < 8192 → (x ≡ 0 → ⊥) → (x ≡ 4096 → ⊥) → twelve_right d 0 x ≡ true
unfolding twelve_right
twelve_other x l a b = rw (below_empty x l a b)

twelve : refusal12 d ≡ none
unfolding refusal12
twelve =
    one_of (λ p. first_not (twelve_right d p) (slots_of d))
    (none_not (twelve_right d 0) (slots_of d) (λ x l. each (λ x. twelve_right d 0 x ≡ true) twelve_first twelve_second twelve_other x (omega (arith, gate_lanes_lem))))

pub table_zero : (i : ℕ) → i < 16896 → table_at d 0 i ≡ 0
unfolding table_word
table_zero i l = table_is i (omega arith) ∙ rw (lt-ltb i 16896 l, table_word)

zero_right : (k i : ℕ) → k < 16896 → ltb (table_at d 0 k) (slots_of d) ≡ thirteen_right d 0 i → thirteen_right d 0 i ≡ true
zero_right k i l e = sym e ∙ ap (λ (x : ℕ). ltb x (slots_of d)) (table_zero k l) ∙ lt-ltb 0 (slots_of d) (omega (arith, gate_lanes_lem))

entry_right : (i : ℕ) → i < 2 * slots_of d → thirteen_right d 0 i ≡ true
entry_right i l =
    ⊎_elim (λ k. zero_right i i (omega (arith, gate_lanes_lem)) (entry_low d 0 i k))
    (λ k. zero_right (i + 2 * plan_lanes d) i (omega (arith, gate_lanes_lem)) (entry_high d 0 i k)) (lt_or_ge i (slots_of d))

thirteen : refusal13 d ≡ none
unfolding refusal13
thirteen = one_of (λ p. first_not (thirteen_right d p) (2 * slots_of d)) (none_not (thirteen_right d 0) (2 * slots_of d) entry_right)

-- ---- what the part reads: the bits of pins 1 and 2, which are bits 0 and 1 of word 0

asked_more : (j : ℕ) → asked_to d 0 (suc j) ≡ asked_to d 0 j ++ asked_by (eqb (level_at d 0 0 j) empty) (planned d (level_at d 0 0 j))
unfolding asked_to
asked_more j = refl

asked_none : (o : Option Planned) → asked_by true o ≡ []
unfolding asked_by
asked_none o = refl

-- m empty slots from slot j on ask for nothing
asked_on : (m j : ℕ) → ((i : ℕ) → j ≤ i → i < j + m → level_at d 0 0 i ≡ empty) → asked_to d 0 (j + m) ≡ asked_to d 0 j
asked_on zero j h = let e : j + 0 ≡ j = omega arith in ap (asked_to d 0) e
asked_on (suc m) j h =
    let e : j + suc m ≡ suc (j + m) = omega arith in
    ap (asked_to d 0) e ∙ asked_more (j + m) ∙ rw (h (j + m) (omega arith) (omega arith), asked_none) (append-nil _ ∙ asked_on m j (λ i a b. h i a (omega arith)))

asked_one : asked_to d 0 1 ≡ 0 ∷ []
unfolding asked_to asked_by
asked_one = rw (level_one, planned_one)

asked_second : asked_by (eqb (level_at d 0 0 4096) empty) (planned d (level_at d 0 0 4096)) ≡ 1 ∷ []
unfolding asked_by
asked_second = rw (level_two, planned_two)

asked_all : asked_to d 0 8192 ≡ 0 ∷ 1 ∷ []
asked_all =
    let first = asked_on 4095 1 (λ i a b. below_empty i (omega arith) (λ e. omega arith) (λ e. omega arith)) ∙ asked_one in
    let second : asked_to d 0 4097 ≡ 0 ∷ 1 ∷ [] = asked_more 4096 ∙ rw (first, asked_second) in
    asked_on 4095 4097 (λ i a b. below_empty i (omega arith) (λ e. omega arith) (λ e. omega arith)) ∙ second

abbrev pub gate_lanes : List Lane
gate_lanes = (record { at = 0; word = 0; mask = 3 } ∷ []) ∷ replicate 255 []

abbrev pub gate_packed : Packed
gate_packed = record { size = 1; lanes = gate_lanes }

packing : packed 256 (pairs_of (read_set_of (0 ∷ 1 ∷ []))) ≡ good gate_packed
unfolding read_set_of ask with_bit pairs_from packed searched weigh wide_mask pop_in total pieces_in insert_piece ordered joined first_room try_from first_win
packing = refl

pub reads_are : part_reads 256 d 0 ≡ good gate_packed
unfolding part_reads read_words
reads_are = rw (gate_lanes_lem, asked_all, packing)

reads_fine : (k : ℕ) → refused_reads 256 k d ≡ none
unfolding refused_reads bad_reads
reads_fine k = one_of (λ p. bad_reads k (part_reads 256 d p)) (rw reads_are)

-- M10'S PLAN IS ACCEPTED
pub gate_accepted : Accepted gate_record
unfolding plan_refusal known
gate_accepted = rw (edition_full, gate_lanes_lem, form_right, gates_right, seven, eight, nine, ten, eleven, twelve, thirteen, reads_fine 3, reads_fine 21, reads_fine 22, reads_fine 4)

-- THE PLAN OF NO PARTS IS ACCEPTED
pub none_accepted : Accepted no_parts
unfolding no_parts bytes_of known plan_lanes plan_refusal plan_form rest_form head_form counts_form length_form lists_form all_below word_at parts_before sum_to gate_base layout_base position_base head_base body_at bad_gate
    bad_over first_from refusal7 lowest_from state_of sram_of totals_fit refusal9 refusal10 refusal11 refusal12 refusal13 refused_reads
none_accepted = refl
