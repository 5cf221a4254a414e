-- Demand 3: "Take an assembled accepted plan, an old state, and a new state in which the earlier major stages have been stored, both of the planned
-- size. Within one major stage, blocks take turns in any order, each keeping its own. Once every block has had its turns, the new state is that of
-- running them one after another; words the stage doesn't store are unchanged"; and of each stored bit that carries a pin, by 5/13: "where its enable
-- bit is 1 it is that pin's value by the gates xor data inv, where 0 the old state's bit; and an enable bit gathered from a captured bit that carries a
-- pin is that pin's value by the gates, cleared and inverted", "the pins its part reads having the bits at their planned positions in the two states."
-- Two more sentences follow from the rule: an enable bit that is gathered from past the normal words, or cleared, is its inv. Of either edition (10/13):
-- the lanes and levels of the run are those of the plan.
-- Assumes nothing.
use Rattle.std.specs.Prelude.{◌≡◌, true, false, List, ℕ, zero, suc, ◌+◌, ◌*◌, ◌-◌, ◌/◌, ◌%◌, ◌≤◌, ◌<◌, ltb, length, get_or, take, drop}
use Rattle.std.proofs.Math.Option.{none}
use Rattle.std.specs.Int.Bits.{differ}
use Rattle.words.specs.Edition.{levels_for}
use Rattle.words.specs.Sum.{sum_to}
use Rattle.words.specs.Bit.{bit, bit_at}
use Rattle.words.specs.Count.{count}
use Rattle.plan_record.specs.Record.{plan_lanes, slots_of, blocks_of, majors_of, parts_before, count_at, stages_of, stage_locations, locations_of, location_at, slot_at, table_at}
use Rattle.words.specs.Pins.{empty}
use Rattle.plan_blocks.specs.Blocks.{block_of, state_start, state_words}
use Rattle.plan_blocks.specs.Sums.{in_block}
use Rattle.values.specs.Values.{pin_value}
use Rattle.plan_refusals.specs.Refusals.{plan_refusal}
use Rattle.script_assembly.specs.Assembly.{script_words, script_starts}
use Rattle.script_assembly.specs.WrittenSoFar.{parts_in, part_start}
use Rattle.run_machine.specs.Turn.{taken, enable_bit, chosen}
use Rattle.run_machine.specs.Room.{block_room}
use Rattle.run_machine.specs.Run.{ran, run_answer, Running, run_turns, all_left, bad_block, bad_turn}
use Rattle.promise_order.specs.Order.{captured_by, one_after_another}

-- ---- "an assembled accepted plan": nothing of it is refused. Its words, and the block starts of major stage s with their end

abbrev pub Accepted : List ℕ → Type 0
Accepted d = plan_refusal d ≡ none

abbrev pub assembled : List ℕ → List ℕ
assembled d = script_words (plan_lanes d) d

abbrev pub starts_of : List ℕ → ℕ → List ℕ
starts_of d s = take (blocks_of d + 1) (drop (blocks_of d * s) (script_starts (plan_lanes d) d))

-- the run of major stage s: "blocks take turns in any order, each keeping its own"
abbrev pub stage_run : List ℕ → ℕ → List ℕ → List ℕ → List ℕ → Running
stage_run d s turns old new = run_turns (plan_lanes d) (levels_for (plan_lanes d)) (assembled d) (starts_of d s) turns old new

-- ---- what a stored bit carries: bit k of location l of part p is position 32·w + k of the location's stage; position 0 carries nothing

-- the record has the locations stage by stage, and how many each stage has: from stage s on, of n stages, location l is in the first that has more than
-- l; else it is so many fewer in a later one
unfoldable pub stage_holding : (ℕ → ℕ) → (n s l : ℕ) → ℕ
stage_holding counts zero s l = s
stage_holding counts (suc n) s l = elim (ltb l (counts s)) [ true ↦ s | false ↦ stage_holding counts n (s + 1) (l - counts s) ]

unfoldable pub stage_of_location : List ℕ → ℕ → ℕ → ℕ
stage_of_location d p l = stage_holding (stage_locations d p) (stages_of d p) 0 l

unfoldable pub carried : List ℕ → ℕ → ℕ → ℕ → ℕ
carried d p l k = slot_at d p (stage_of_location d p l) (32 * location_at d p l + k)

pub record Carries (d : List ℕ) (p l k : ℕ) : Type 0 where
  pub position : 0 < 32 * location_at d p l + k
  pub some-pin : carried d p l k ≡ empty → ⊥

-- ---- the enable table of part p, place q: the captured bit that it names, its three bits

unfoldable pub enable_entry : List ℕ → ℕ → ℕ → ℕ
enable_entry d p q = table_at d p (34 * plan_lanes d + q)

unfoldable pub inv_of : List ℕ → ℕ → ℕ → ℕ
inv_of d p q = bit (table_at d p (66 * plan_lanes d + q / 32)) (q % 32)

unfoldable pub set0_of : List ℕ → ℕ → ℕ → ℕ
set0_of d p q = bit (table_at d p (67 * plan_lanes d + q / 32)) (q % 32)

unfoldable pub data_inv_of : List ℕ → ℕ → ℕ → ℕ
data_inv_of d p q = bit (table_at d p (68 * plan_lanes d + q / 32)) (q % 32)

-- the word at which part i of major stage s begins: behind those of its block that come before it
unfoldable pub part_begins_at : List ℕ → ℕ → ℕ → ℕ
part_begins_at d s i = part_start (plan_lanes d) d s (block_of d s i) (in_block (block_of d s) (λ j. 1) (block_of d s i) i)

-- its enable bit at place q: what the run gathers from what the part captures
unfoldable pub enabled : List ℕ → ℕ → ℕ → List ℕ → List ℕ → ℕ → ℕ
enabled d s i old new q = enable_bit (plan_lanes d) (assembled d) (part_begins_at d s i) (captured_by (plan_lanes d) (levels_for (plan_lanes d)) (assembled d) (part_begins_at d s i) old new) q

-- word w is stored by a part of major stage s
pub record StoredBy (d : List ℕ) (s i w : ℕ) : Type 0 where
  pub part : i < count_at d s
  pub from : state_start d s i ≤ w
  pub until : w < state_start d s i + locations_of d (parts_before d s + i)

-- ---- the promise, of the new state `after` that is left

pub record Kept (d : List ℕ) (s : ℕ) (old new after : List ℕ) : Type 0 where
  pub order : after ≡ (stage_run d s (one_after_another (plan_lanes d) (assembled d) (starts_of d s) (blocks_of d)) old new).new
  pub frame : (w : ℕ) → ((i : ℕ) → StoredBy d s i w → ⊥) → get_or after w 0 ≡ get_or new w 0
  pub pins : (i l k : ℕ) → i < count_at d s → l < locations_of d (parts_before d s + i) → k < 32 → Carries d (parts_before d s + i) l k
      → bit_at after (32 * (state_start d s i + l) + k)
      ≡ chosen (enabled d s i old new (32 * l + k))
      (differ (pin_value d (parts_before d s + i) old new (carried d (parts_before d s + i) l k)) (data_inv_of d (parts_before d s + i) (32 * l + k)))
      (bit_at old (32 * (state_start d s i + l) + k))
  pub enables : (i q l k : ℕ) → i < count_at d s → q < slots_of d → enable_entry d (parts_before d s + i) q ≡ 32 * l + k
      → l < locations_of d (parts_before d s + i) → k < 32 → Carries d (parts_before d s + i) l k
      → enabled d s i old new q
      ≡ taken (pin_value d (parts_before d s + i) old new (carried d (parts_before d s + i) l k)) (set0_of d (parts_before d s + i) q) (inv_of d (parts_before d s + i) q)
  pub past : (i q : ℕ) → i < count_at d s → q < slots_of d → locations_of d (parts_before d s + i) ≤ enable_entry d (parts_before d s + i) q / 32
      → enabled d s i old new q ≡ inv_of d (parts_before d s + i) q
  pub cleared : (i q : ℕ) → i < count_at d s → q < slots_of d → set0_of d (parts_before d s + i) q ≡ 1 → enabled d s i old new q ≡ inv_of d (parts_before d s + i) q

-- "Once every block has had its turns": no turns are left
pub record Done (d : List ℕ) (s : ℕ) (turns old new : List ℕ) : Type 0 where
  pub accepted : Accepted d
  pub stage : s < majors_of d
  pub old-size : length old ≡ state_words d
  pub new_size : length new ≡ state_words d
  pub named : bad_turn (starts_of d s) turns ≡ none
  pub all : all_left (plan_lanes d) (assembled d) (stage_run d s turns old new).blocks ≡ 0

-- DEMAND 3
abbrev pub Demand3 : Type 0
Demand3 = (d : List ℕ) (s : ℕ) (turns old new : List ℕ) → Done d s turns old new → Kept d s old new (stage_run d s turns old new).new

-- and the run of an accepted plan is never refused by 15, whatever the states of the planned size hold
abbrev pub NeverRefused : Type 0
NeverRefused =
    (d : List ℕ) (s t u : ℕ) → Accepted d → s < majors_of d → state_words d ≤ t → state_words d ≤ u → bad_block (plan_lanes d) (assembled d) (starts_of d s) t u ≡ none

-- ---- "Once every block has had its turns", as a matter of the turn list

-- the turns of block b of major stage s: "A part takes stages + 2 turns"
unfoldable pub turns_of : List ℕ → ℕ → ℕ → ℕ
turns_of d s b = sum_to (λ j. stages_of d (parts_before d s + get_or (parts_in d s b) j 0) + 2) (length (parts_in d s b))

-- those that the turn list leaves over, block by block
unfoldable pub left_over : List ℕ → ℕ → List ℕ → ℕ
left_over d s turns = sum_to (λ b. turns_of d s b - count b turns) (blocks_of d)

-- the run of an accepted plan, with room enough and every turn naming a block, answers so many turns left
abbrev pub Finishes : Type 0
Finishes =
    (d : List ℕ) (s : ℕ) (turns old new : List ℕ) (room : ℕ) → Accepted d → s < majors_of d → length old ≡ state_words d → length new ≡ state_words d
    → block_room * blocks_of d ≤ room → ((i : ℕ) → i < length turns → get_or turns i 0 < blocks_of d)
    → run_answer (plan_lanes d) (levels_for (plan_lanes d)) (assembled d) (starts_of d s) turns old new room ≡ ran (left_over d s turns) (stage_run d s turns old new).new

-- and where each block is named as often as it has turns, 0 are left and the promise is kept
abbrev pub Finished : Type 0
Finished =
    (d : List ℕ) (s : ℕ) (turns old new : List ℕ) (room : ℕ) → Accepted d → s < majors_of d → length old ≡ state_words d → length new ≡ state_words d
    → block_room * blocks_of d ≤ room → ((i : ℕ) → i < length turns → get_or turns i 0 < blocks_of d) → ((b : ℕ) → b < blocks_of d → turns_of d s b ≤ count b turns)
    → (run_answer (plan_lanes d) (levels_for (plan_lanes d)) (assembled d) (starts_of d s) turns old new room ≡ ran 0 (stage_run d s turns old new).new) × Kept d s old new (stage_run d s turns old new).new

-- the same of what a run answers: it was not refused, no turns are left, and `after` is the new state
abbrev pub AsRun : Type 0
AsRun =
    (d : List ℕ) (s : ℕ) (turns old new after : List ℕ) (room : ℕ) → Accepted d → s < majors_of d → length old ≡ state_words d → length new ≡ state_words d
    → run_answer (plan_lanes d) (levels_for (plan_lanes d)) (assembled d) (starts_of d s) turns old new room ≡ ran 0 after → Kept d s old new after
