-- Refusals 32 and 5 of a plan: document 01, "Plan ranges" and the table. Refusal 5: "a number outside 'Plan ranges', slots excepted; unknown
-- kind; a list not as long as its count".
-- Assumes nothing.
use Rattle.std.specs.Prelude.{Bool, true, ◌&&◌, ◌||◌, List, ℕ, ◌+◌, ◌*◌, ◌/◌, ◌%◌, ◌^◌, min, leb, eqb, length}
use Rattle.words.specs.Pins.{is_pin, is_pin_iv, empty}
use Rattle.words.specs.Tests.{all_below}
use Rattle.plan_record.specs.Record.{blocks_of, majors_of, gates_of, layout_of, positions_of, second_gates, second_layout, check_of, count_at, parts_before, parts_of, gate_pin}
use Rattle.plan_record.specs.Record.{gate_first, gate_second, layout_pin, position_pin, position_staged, position_design, stages_of, endpoints_of, design_of, handed_words, body_at, endpoint_word}
use Rattle.plan_record.specs.declared.bodies.Endpoint.{Endpoint}
use Rattle.plan_record.specs.declared.bodies.Endpoint.TheVariants.{Output, Staged, Register, Sram}
use Rattle.plan_record.specs.Endpoint.{endpoint_at}

-- "65536 plus 16 a part (as its counts say) for a plan": the counts of 64 major stages at most are looked at
unfoldable pub plan_room_words : List ℕ → ℕ
plan_room_words d = 65536 + 16 * parts_before d (min (majors_of d) 64)

-- Words that a request of document 02 still to come gives their meaning are 0, here and below: of the head, the gates and the input layout length of
-- a second design (12/13) and the check (13/13)
unfoldable pub rest_form : List ℕ → Bool
rest_form d = eqb (second_gates d) 0 && (eqb (second_layout d) 0 && eqb (check_of d) 0)

-- "blocks 1..=1024, major stages 1..=64, .. input layout 0..=2^20 entries, position list 0..=2^20 entries"
unfoldable pub head_form : List ℕ → Bool
head_form d =
    leb 1 (blocks_of d) && leb (blocks_of d) 1024 && (leb 1 (majors_of d) && leb (majors_of d) 64)
    && (leb (layout_of d) (2 ^ 20) && leb (positions_of d) (2 ^ 20)) && rest_form d

-- "parts of a major stage 0..=4096"
unfoldable pub counts_form : List ℕ → Bool
counts_form d = all_below (λ s. leb (count_at d s) 4096) (majors_of d)

-- "boomerang stages of a part 1..=255, endpoints of a part 0..=8192"; its design (12/13) and the words of lanes handed in (8/13) are 0
unfoldable pub part_head_form : List ℕ → ℕ → Bool
part_head_form d p =
    leb 1 (stages_of d p) && leb (stages_of d p) 255 && leb (endpoints_of d p) 8192 && (eqb (design_of d p) 0 && eqb (handed_words d p) 0)

-- the record is whole words, and has exactly those that its counts give
unfoldable pub length_form : List ℕ → Bool
length_form d = eqb (length d % 4) 0 && eqb (body_at d (parts_of d)) (length d / 4)

unfoldable pub gate_form : List ℕ → ℕ → Bool
gate_form d g = is_pin (gate_pin d g) && is_pin_iv (gate_first d g) && is_pin_iv (gate_second d g)

unfoldable pub layout_form : List ℕ → ℕ → Bool
layout_form d i = is_pin (layout_pin d i) || eqb (layout_pin d i) empty

-- its design (12/13) is 0
unfoldable pub position_form : List ℕ → ℕ → Bool
position_form d i = is_pin (position_pin d i) && leb (position_staged d i) 1 && eqb (position_design d i) 0

-- the numbers that an endpoint holds: words that its kind has no use for are not looked at
unfoldable pub numbers_form : Endpoint → Bool
numbers_form (Output x) = is_pin_iv x.0
numbers_form (Staged x) = is_pin x.0
numbers_form (Register d en) = is_pin_iv d.0 && is_pin_iv en.0
numbers_form Sram = true

-- "unknown kind"; the fourth word (6/13) is not looked at
unfoldable pub endpoint_form : List ℕ → ℕ → ℕ → Bool
endpoint_form d p i = leb (endpoint_word d p i 0) 3 && numbers_form (endpoint_at d p i)

-- what a list may hold
unfoldable pub lists_form : List ℕ → Bool
lists_form d =
    all_below (gate_form d) (gates_of d) && all_below (layout_form d) (layout_of d) && all_below (position_form d) (positions_of d)
    && all_below (λ p. all_below (endpoint_form d p) (endpoints_of d p)) (parts_of d)

-- refusal 5 is given exactly when this is false
unfoldable pub plan_form : List ℕ → Bool
plan_form d = head_form d && counts_form d && all_below (part_head_form d) (parts_of d) && length_form d && lists_form d
