-- The script of M10's part, by the definitions of `script` over M10's record: the words that are written out in GateScript.antt. Each section is that of a
-- function that is known place by place; lists come from the functions.
-- Assumes nothing.
use mathlib.Core.Path.{◌≡◌, refl, sym, ap, ◌∙◌}
use mathlib.Core.Logic.{⊎_elim}
use mathlib.Core.Bool.{true, false}
use mathlib.Core.Option.{some}
use mathlib.Core.List.{List, ◌∷◌, ◌++◌}
use Prim.Native.Nat.{ℕ, zero, suc, ◌+◌, ◌*◌, ◌^◌, ◌≤◌, ◌<◌}
use native.Mathlib.Omega.{arith}
use borrow.Author.Tests.{lt-ltb, le-ltb, eq-eqb, ne_eqb}
use lib.Dec.{ltb, eqb}
use lib.ListN.{get_or, replicate, length-replicate}
use Rattle.words.specs.Bit.{pop_in, word_of}
use Rattle.words.specs.Pins.{empty}
use Rattle.words.specs.Sum.{sum_to}
use Rattle.words.specs.Section.{word_of_entry, entry_of, list_of, section_of}
use Rattle.words.proofs.BitLaws.{lt_or_ge}
use Rattle.words.proofs.ListLaws.{zeros_at}
use Rattle.words.proofs.SectionLaws.{place_entry, list_of-is, list_of_ext, section_ext}
use Rattle.reads.specs.ReadSet.{total}
use Rattle.reads.specs.Search.{longest}
use Rattle.reads.specs.Local.{mask_in, later, local_at, round_from, lane_round_from, local_of}
use Rattle.reads.specs.ReadSection.{lane_round_words, round_words, rounds_from, read_section}
use Rattle.plan_record.specs.Record.{slots_of, slot_at, level_at, table_at}
use Rattle.plan_blocks.proofs.TotalLaws.{same_or}
use Rattle.plan_gates.specs.Gates.{gate_of}
use Rattle.plan_slots.specs.Slots.{top_below}
use Rattle.plan_winners.specs.Planned.{planned}
use Rattle.plan_reads.specs.PartReads.{packed_in, part_lanes, local_position}
use Rattle.reads.specs.SetAnswer.{Packed}
use Rattle.words.specs.Answer.{Answer}
use Rattle.script.specs.Script.{numbers, half_in, location_stage, location_half, location_words, pin_entry, stage_entry, first_inversion, second_inversion, orb_bit, xora_bit, xorb_bit, mask_word, lane_list, stage_section, stage_sections, sram_section, enable_section, part_script}
use Rattle.script.proofs.SectionsLaws.{lanes_ext}
use Rattle.marked_plan.specs.GatePlan.{table_word, gate_record}
use Rattle.marked_plan.specs.GateScript.{always_on, gate_numbers, place_words, one_round, gate_section, gate_three}
use Rattle.marked_plan.proofs.GateRecordLaws.{gate_base_lem, gate_first_lem, gate_second_lem, stages_one, endpoints_none, stage_location, locations_one, location_is, table_is}
use Rattle.marked_plan.proofs.GateAcceptedLaws.{level_one, level_two, no_duplicates, write_outs_one, gate_three_lem, planned_one, planned_two, pin_one, pin_three, each, below_empty, above_empty, table_zero, gate_lanes, reads_are}

abbrev d : List ℕ
d = gate_record

-- 1 at place k, else 0
abbrev one_at : ℕ → ℕ → ℕ
one_at k i = elim (eqb i k) [ true ↦ 1 | false ↦ 0 ]

one_here : (k i : ℕ) → i ≡ k → one_at k i ≡ 1
one_here k i e = rw (eq-eqb i k e, one_at)

one_else : (k i : ℕ) → (i ≡ k → ⊥) → one_at k i ≡ 0
one_else k i e = rw (ne_eqb i k e, one_at)

-- ---- sections: with 1 in entry 0 alone, and with zeros

entry_some : (w e : ℕ) → 0 < w → w < 4096 → e < 2 → entry_of 256 w e ≡ 0 → ⊥
unfolding word_of_entry
entry_some w e low few half is = let back = (place_entry 256 w e few half).1 in let place = ap (word_of_entry 256) is in omega arith

first_word : 1 ≡ one_at 0 (entry_of 256 0 1) * 2 ^ 16 + one_at 0 (entry_of 256 0 0)
unfolding entry_of
first_word = refl

first_entry : section_of 256 (one_at 0) ≡ 1 ∷ replicate 4095 0
unfolding section_of
first_entry = sym (list_of-is (λ w. one_at 0 (entry_of 256 w 1) * 2 ^ 16 + one_at 0 (entry_of 256 w 0)) 4096 (1 ∷ replicate 4095 0) (ap suc (length-replicate {A = ℕ} 4095 0)) word)
  where
    word : (w : ℕ) → w < 4096 → get_or (1 ∷ replicate 4095 0) w 0 ≡ one_at 0 (entry_of 256 w 1) * 2 ^ 16 + one_at 0 (entry_of 256 w 0)
    word zero l = first_word
    word (suc w) l =
        zeros_at 4095 w
        ∙ sym (rw (one_else 0 (entry_of 256 (suc w) 1) (entry_some (suc w) 1 (omega arith) l (omega arith)), one_else 0 (entry_of 256 (suc w) 0) (entry_some (suc w) 0 (omega arith) l (omega arith))))

no_entries : section_of 256 (λ i. 0) ≡ replicate 4096 0
unfolding section_of
no_entries = sym (list_of-is (λ w. 0 * 2 ^ 16 + 0) 4096 (replicate 4096 0) (length-replicate {A = ℕ} 4096 0) (λ w l. zeros_at 4096 w))

-- ---- the first 256 words

lanes_are : part_lanes 256 d 0 ≡ gate_lanes
lanes_are = ap (λ (o : Answer Packed). (packed_in o).lanes) reads_are

numbers_are : numbers 256 d 0 1 1 0 ≡ gate_numbers
unfolding numbers gate_numbers sum_to longest
numbers_are = rw (stages_one, write_outs_one, endpoints_none, lanes_are, no_duplicates)

location_first : (l : ℕ) → location_half d 0 l ≡ elim (ltb l 1) [ true ↦ 128 | false ↦ 65535 ]
unfolding location_half location_stage sum_to
location_first l =
    ⊎_elim
    (λ k. let z : l ≡ 0 = omega arith in rw (z, locations_one, stages_one, stage_location, location_is))
    (λ k. rw (locations_one, le-ltb l 1 k, half_in))
    (lt_or_ge l 1)

locations_are : location_words 256 d 0 ≡ place_words
unfolding location_words place_words list_of
locations_are =
    let half : ℕ → ℕ = λ l. elim (ltb l 1) [ true ↦ 128 | false ↦ 65535 ] in
    list_of_ext (λ j. location_half d 0 (2 * j + 1) * 2 ^ 16 + location_half d 0 (2 * j)) (λ j. half (2 * j + 1) * 2 ^ 16 + half (2 * j)) 128
    (λ j l. rw (location_first (2 * j + 1), location_first (2 * j)))

reads_section : read_section gate_lanes ≡ one_round
unfolding longest lane_round_words round_words rounds_from one_round
reads_section = refl

-- ---- the stage

local_one : local_position gate_lanes (some (record { staged = 0; place = 0 })) ≡ 1
unfolding local_position local_of local_at lane_round_from round_from mask_in later total pop_in
local_one = refl

local_two : local_position gate_lanes (some (record { staged = 0; place = 1 })) ≡ 0
unfolding local_position local_of local_at lane_round_from round_from mask_in later total pop_in
local_two = refl

-- the slots that hold a pin are not empty, and gate 3 is not its slot a
slot_full : (q x : ℕ) → slot_at d 0 0 q ≡ x → (x ≡ empty → ⊥) → eqb (slot_at d 0 0 q) empty ≡ false
slot_full q x e h = rw e (ne_eqb x empty h)

entry_full : (i x : ℕ) → level_at d 0 0 i ≡ x → (x ≡ empty → ⊥) → stage_entry 256 d 0 0 i ≡ local_position gate_lanes (planned d x)
unfolding stage_entry pin_entry
entry_full i x e h = rw (slot_full (slots_of d + i) x e h, stage_entry) (ap (λ (y : ℕ). local_position (part_lanes 256 d 0) (planned d y)) e ∙ rw lanes_are)

entry_first : stage_entry 256 d 0 0 0 ≡ 1
entry_first = entry_full 0 1 level_one (λ e. omega arith) ∙ rw planned_one local_one

entry_second : stage_entry 256 d 0 0 4096 ≡ 0
entry_second = entry_full 4096 2 level_two (λ e. omega arith) ∙ rw planned_two local_two

entry_other : (x : ℕ) → x < 8192 → (x ≡ 0 → ⊥) → (x ≡ 4096 → ⊥) → stage_entry 256 d 0 0 x ≡ one_at 0 x
unfolding stage_entry
entry_other x l a b = rw (below_empty x l a b, stage_entry) (sym (one_else 0 x a))

entries_are : section_of 256 (stage_entry 256 d 0 0) ≡ 1 ∷ replicate 4095 0
entries_are = section_ext 256 (stage_entry 256 d 0 0) (one_at 0) (each (λ x. stage_entry 256 d 0 0 x ≡ one_at 0 x) entry_first entry_second entry_other) ∙ first_entry

xora_first : xora_bit d 0 0 0 ≡ 0
unfolding xora_bit
xora_first = refl

gate_full : eqb (slot_at d 0 0 4096) empty ≡ false
gate_full = slot_full 4096 3 pin_three (λ e. omega arith)

gate_not_a : eqb (slot_at d 0 0 4096) (slot_at d 0 0 8192) ≡ false
gate_not_a = rw (pin_three, pin_one)

first_of_three : first_inversion d (gate_of d (slot_at d 0 0 4096)) ≡ 0
unfolding first_inversion
first_of_three = rw (pin_three, gate_three_lem, gate_base_lem, gate_first_lem)

second_of_three : second_inversion d (gate_of d (slot_at d 0 0 4096)) ≡ 1
unfolding second_inversion
second_of_three = rw (pin_three, gate_three_lem, gate_base_lem, gate_second_lem)

xora_gate : xora_bit d 0 0 4096 ≡ 0
unfolding xora_bit top_below
xora_gate = rw (gate_full, gate_not_a, xora_bit) first_of_three

xora_other : (q : ℕ) → q < 8192 → (q ≡ 0 → ⊥) → (q ≡ 4096 → ⊥) → xora_bit d 0 0 q ≡ 0
unfolding xora_bit
xora_other q l a b = rw (above_empty q l a b, ne_eqb q 0 a, xora_bit)

xorb_first : xorb_bit d 0 0 0 ≡ 0
unfolding xorb_bit
xorb_first = refl

xorb_gate : xorb_bit d 0 0 4096 ≡ 1
unfolding xorb_bit top_below
xorb_gate = rw (gate_full, gate_not_a, xorb_bit) second_of_three

xorb_other : (q : ℕ) → q < 8192 → (q ≡ 0 → ⊥) → (q ≡ 4096 → ⊥) → xorb_bit d 0 0 q ≡ one_at 4096 q
unfolding xorb_bit
xorb_other q l a b = rw (above_empty q l a b, ne_eqb q 0 a, xorb_bit) (sym (one_else 4096 q b))

orb_first : orb_bit d 0 0 0 ≡ 0
unfolding orb_bit
orb_first = refl

orb_gate : orb_bit d 0 0 4096 ≡ 0
unfolding orb_bit top_below
orb_gate = rw (gate_full, gate_not_a, orb_bit)

orb_other : (q : ℕ) → q < 8192 → (q ≡ 0 → ⊥) → (q ≡ 4096 → ⊥) → orb_bit d 0 0 q ≡ 0
unfolding orb_bit
orb_other q l a b = rw (above_empty q l a b, ne_eqb q 0 a, orb_bit)

word_ext : (f g : ℕ → ℕ) (n : ℕ) → ((k : ℕ) → k < n → f k ≡ g k) → word_of f n ≡ word_of g n
unfolding word_of
word_ext f g zero h = refl
word_ext f g (suc n) h = rw (h n (omega arith), word_ext f g n (λ k l. h k (omega arith)), word_of)

zero_word : word_of (λ k. 0) 32 ≡ 0
unfolding word_of
zero_word = refl

one_word : word_of (one_at 0) 32 ≡ 1
unfolding word_of
one_word = refl

-- the word of a lane whose bits are 0
zero_mask : (f : ℕ → ℕ) (w : ℕ) → ((q : ℕ) → q < 8192 → f q ≡ 0) → w < 256 → mask_word f w ≡ 0
zero_mask f w h l = word_ext (λ k. f (32 * w + k)) (λ k. 0) 32 (λ k u. h (32 * w + k) (omega arith)) ∙ zero_word

-- bit 4096 is bit 0 of lane 128
xorb_mask : (w : ℕ) → w < 256 → mask_word (xorb_bit d 0 0) w ≡ one_at 128 w
xorb_mask w l =
    ⊎_elim
    (λ e. word_ext (λ k. xorb_bit d 0 0 (32 * w + k)) (one_at 0) 32 (λ k u. bits k u ∙ moved k e) ∙ one_word ∙ sym (one_here 128 w e))
    (λ e. word_ext (λ k. xorb_bit d 0 0 (32 * w + k)) (λ k. 0) 32 (λ k u. bits k u ∙ one_else 4096 (32 * w + k) (λ q. e (omega arith))) ∙ zero_word ∙ sym (one_else 128 w e))
    (same_or w 128)
  where
    bits : (k : ℕ) → k < 32 → xorb_bit d 0 0 (32 * w + k) ≡ one_at 4096 (32 * w + k)
    bits k u = each (λ q. xorb_bit d 0 0 q ≡ one_at 4096 q) xorb_first xorb_gate xorb_other (32 * w + k) (omega arith)

    moved : (k : ℕ) → w ≡ 128 → one_at 4096 (32 * w + k) ≡ one_at 0 k
    moved k e =
        ⊎_elim (λ z. one_here 4096 (32 * w + k) (omega arith) ∙ sym (one_here 0 k z)) (λ z. one_else 4096 (32 * w + k) (λ q. z (omega arith)) ∙ sym (one_else 0 k z)) (same_or k 0)

stage_lanes : lane_list (λ w. 0) (one_at 128) (λ w. 0) 256 ≡ replicate 513 0 ++ (1 ∷ replicate 510 0)
unfolding lane_list
stage_lanes = refl

stage_is : stage_sections 256 d 0 1 ≡ gate_section
unfolding stage_sections stage_section gate_section
stage_is =
    let zeros : (f : ℕ → ℕ) → ((q : ℕ) → q < 8192 → f q ≡ 0) → (w : ℕ) → w < 256 → mask_word f w ≡ 0 = λ f h w l. zero_mask f w h l in
    let masks =
    lanes_ext (mask_word (xora_bit d 0 0)) (mask_word (xorb_bit d 0 0)) (mask_word (orb_bit d 0 0)) (λ w. 0) (one_at 128) (λ w. 0) 256
    (zeros (xora_bit d 0 0) (each (λ q. xora_bit d 0 0 q ≡ 0) xora_first xora_gate xora_other)) xorb_mask
    (zeros (orb_bit d 0 0) (each (λ q. orb_bit d 0 0 q ≡ 0) orb_first orb_gate orb_other)) in
    rw (entries_are, masks, stage_lanes)

-- ---- the two tables

zero_lanes : lane_list (λ w. 0) (λ w. 0) (λ w. 0) 256 ≡ replicate 1024 0
unfolding lane_list
zero_lanes = refl

on_lanes : lane_list (λ w. 0xFFFFFFFF) (λ w. 0xFFFFFFFF) (λ w. 0) 256 ≡ always_on 256
unfolding lane_list always_on
on_lanes = refl

sram_is : sram_section 256 d 0 ≡ replicate 4096 0 ++ replicate 1024 0
unfolding sram_section
sram_is =
    let entries = section_ext 256 (table_at d 0) (λ i. 0) (λ i l. table_zero i (omega arith)) ∙ no_entries in
    let lanes =
    lanes_ext (λ w. table_at d 0 (8192 + w)) (λ w. table_at d 0 (8448 + w)) (λ w. 0) (λ w. 0) (λ w. 0) (λ w. 0) 256 (λ w l. table_zero (8192 + w) (omega arith))
    (λ w l. table_zero (8448 + w) (omega arith)) (λ w l. refl) ∙ zero_lanes in
    rw (entries, lanes)

table_ones : (i : ℕ) → 16896 ≤ i → i < 17408 → table_at d 0 i ≡ 0xFFFFFFFF
unfolding table_word
table_ones i a b = table_is i (omega arith) ∙ rw (le-ltb i 16896 a, lt-ltb i 17408 b, table_word)

table_end : (i : ℕ) → 17408 ≤ i → i < 17664 → table_at d 0 i ≡ 0
unfolding table_word
table_end i a b = table_is i b ∙ rw (le-ltb i 16896 (omega arith), le-ltb i 17408 a, table_word)

enable_is : enable_section 256 d 0 ≡ replicate 4096 0 ++ always_on 256
unfolding enable_section
enable_is =
    let entries = section_ext 256 (λ i. table_at d 0 (8704 + i)) (λ i. 0) (λ i l. table_zero (8704 + i) (omega arith)) ∙ no_entries in
    let lanes =
    lanes_ext (λ w. table_at d 0 (16896 + w)) (λ w. table_at d 0 (17152 + w)) (λ w. table_at d 0 (17408 + w)) (λ w. 0xFFFFFFFF) (λ w. 0xFFFFFFFF) (λ w. 0) 256
    (λ w l. table_ones (16896 + w) (omega arith) (omega arith)) (λ w l. table_ones (17152 + w) (omega arith) (omega arith))
    (λ w l. table_end (17408 + w) (omega arith) (omega arith)) ∙ on_lanes in
    rw (entries, lanes)

-- THE SCRIPT OF M10'S PART, last of its block, state start 1, no SRAM
pub gate_script : part_script 256 d 0 1 1 0 ≡ gate_three
unfolding part_script gate_three
gate_script = rw (numbers_are, locations_are, lanes_are, reads_section, stages_one, stage_is, sram_is, enable_is)
