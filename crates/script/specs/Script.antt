-- The script of a part, word by word: document 01, "The script of a part". n is the number of lanes; p is a part of the plan, part i of major
-- stage s. Entries and masks are functions of their place, and lists come from them.
-- Assumes nothing.
use Rattle.std.specs.Prelude.{Bool, true, false, ◌||◌, List, [], ◌∷◌, ◌++◌, ℕ, zero, suc, ◌+◌, ◌*◌, ◌-◌, ◌/◌, ◌%◌, ◌^◌, leb, ltb, eqb, replicate}
use Rattle.std.proofs.Math.Option.{Option, none, some}
use Rattle.words.specs.Sum.{sum_to}
use Rattle.words.specs.Bit.{word_of}
use Rattle.words.specs.Section.{list_of, section_of}
use Rattle.reads.specs.Search.{longest}
use Rattle.reads.specs.ReadSection.{read_section}
use Rattle.plan_record.specs.Record.{stages_of, stage_locations, locations_of, location_at, slot_at, level_at, table_at, gate_first, gate_second}
use Rattle.words.specs.Pins.{empty}
use Rattle.plan_gates.specs.Gates.{gate_of}
use Rattle.plan_counts.specs.Counts.{srams, duplicates, write_outs}
use Rattle.plan_slots.specs.Slots.{slot_a, highest}
use Rattle.plan_winners.specs.Planned.{planned}
use Rattle.plan_reads.specs.PartReads.{part_lanes, local_position}

-- ---- "Words 0..7: boomerang stages; 0, or 1 on the last part of a block; write-out words; state start; SRAMs; SRAM start; rounds; duplicate words."

-- the last mark, the state start and the SRAM start come from the blocks
unfoldable pub numbers : ℕ → List ℕ → ℕ → ℕ → ℕ → ℕ → List ℕ
numbers n d p last state sram =
    stages_of d p ∷ last ∷ write_outs d p ∷ state ∷ srams d p ∷ sram ∷ longest (part_lanes n d p) ∷ duplicates d p ∷ replicate (n / 2 - 8) 0

-- "locations (stage·256+w), two to a word, first in the low half; a last odd one has high half 0xFFFF; the rest 0xFFFFFFFF"
-- over the numbers of locations of n stages: the stage of location l is how many stages end at or before it
abbrev pub stage_in : (ℕ → ℕ) → ℕ → ℕ → ℕ
stage_in counts n l = sum_to (λ s. elim (leb (sum_to counts (suc s)) l) [ true ↦ 1 | false ↦ 0 ]) n

-- the half of location l of m, from stages and locations, and the words of n halves
abbrev pub half_in : (ℕ → ℕ) → (ℕ → ℕ) → ℕ → ℕ → ℕ
half_in stage location m l = elim (ltb l m) [ true ↦ 256 * stage l + location l | false ↦ 65535 ]

abbrev pub half_words : (ℕ → ℕ) → ℕ → List ℕ
half_words half n = list_of (λ j. half (2 * j + 1) * 2 ^ 16 + half (2 * j)) (n / 2)

-- those of a part
unfoldable pub location_stage : List ℕ → ℕ → ℕ → ℕ
location_stage d p l = stage_in (stage_locations d p) (stages_of d p) l

unfoldable pub location_half : List ℕ → ℕ → ℕ → ℕ
location_half d p l = half_in (location_stage d p) (location_at d p) (locations_of d p) l

unfoldable pub location_words : ℕ → List ℕ → ℕ → List ℕ
location_words n d p = half_words (location_half d p) n

-- ---- a stage

-- "Entry i of a stage is 0 for an empty slot. Else in stage 0 it is the local position of the pin's state bit, and later the pin's highest
-- position in the stage just before."
unfoldable pub pin_entry : ℕ → List ℕ → ℕ → ℕ → ℕ → ℕ
pin_entry n d p zero x = local_position (part_lanes n d p) (planned d x)
pin_entry n d p (suc s) x = highest d p s x

unfoldable pub stage_entry : ℕ → List ℕ → ℕ → ℕ → ℕ → ℕ
stage_entry n d p s i = elim (eqb (level_at d p s i) empty) [ true ↦ 0 | false ↦ pin_entry n d p s (level_at d p s i) ]

-- "At a non-empty slot ..: if it equals a, set orb at its position; else it is an AND gate .., and xora, xorb take their inversions."
unfoldable pub first_inversion : List ℕ → Option ℕ → ℕ
first_inversion d none = 0
first_inversion d (some g) = gate_first d g % 2

unfoldable pub second_inversion : List ℕ → Option ℕ → ℕ
second_inversion d none = 0
second_inversion d (some g) = gate_second d g % 2

-- position 0 has no slot
abbrev pub no_slot : List ℕ → ℕ → ℕ → ℕ → Bool
no_slot d p s q = eqb q 0 || eqb (slot_at d p s q) empty

unfoldable pub orb_bit : List ℕ → ℕ → ℕ → ℕ → ℕ
orb_bit d p s q =
    elim (no_slot d p s q) [ true ↦ 0 | false ↦ elim (eqb (slot_at d p s q) (slot_a d p s q)) [ true ↦ 1 | false ↦ 0 ] ]

unfoldable pub xora_bit : List ℕ → ℕ → ℕ → ℕ → ℕ
xora_bit d p s q =
    elim (no_slot d p s q || eqb (slot_at d p s q) (slot_a d p s q)) [ true ↦ 0 | false ↦ first_inversion d (gate_of d (slot_at d p s q)) ]

unfoldable pub xorb_bit : List ℕ → ℕ → ℕ → ℕ → ℕ
xorb_bit d p s q =
    elim (no_slot d p s q || eqb (slot_at d p s q) (slot_a d p s q)) [ true ↦ 0 | false ↦ second_inversion d (gate_of d (slot_at d p s q)) ]

-- a word of a lane from the bits at its 32 positions
abbrev pub mask_word : (ℕ → ℕ) → ℕ → ℕ
mask_word f w = word_of (λ k. f (32 * w + k)) 32

-- "four words per lane": those of lane w, then of all lanes
unfoldable pub lane_list : (ℕ → ℕ) → (ℕ → ℕ) → (ℕ → ℕ) → ℕ → List ℕ
lane_list a b c zero = []
lane_list a b c (suc w) = lane_list a b c w ++ (a w ∷ b w ∷ c w ∷ 0 ∷ [])

-- "for a stage xora, xorb, orb, 0"
unfoldable pub stage_section : ℕ → List ℕ → ℕ → ℕ → List ℕ
stage_section n d p s =
    section_of n (stage_entry n d p s)
    ++ lane_list (mask_word (xora_bit d p s)) (mask_word (xorb_bit d p s)) (mask_word (orb_bit d p s)) n

unfoldable pub stage_sections : ℕ → List ℕ → ℕ → ℕ → List ℕ
stage_sections n d p zero = []
stage_sections n d p (suc s) = stage_sections n d p s ++ stage_section n d p s

-- "for SRAM inv, set0, 0, 0; for clock enables inv, set0, data inv, 0"
unfoldable pub sram_section : ℕ → List ℕ → ℕ → List ℕ
sram_section n d p = section_of n (table_at d p) ++ lane_list (λ w. table_at d p (32 * n + w)) (λ w. table_at d p (33 * n + w)) (λ w. 0) n

unfoldable pub enable_section : ℕ → List ℕ → ℕ → List ℕ
enable_section n d p =
    section_of n (λ i. table_at d p (34 * n + i))
    ++ lane_list (λ w. table_at d p (66 * n + w)) (λ w. table_at d p (67 * n + w)) (λ w. table_at d p (68 * n + w)) n

-- ---- the whole script of a part

unfoldable pub part_script : ℕ → List ℕ → ℕ → ℕ → ℕ → ℕ → List ℕ
part_script n d p last state sram =
    numbers n d p last state sram
    ++ (location_words n d p
    ++ (read_section (part_lanes n d p) ++ (stage_sections n d p (stages_of d p) ++ (sram_section n d p ++ enable_section n d p))))
