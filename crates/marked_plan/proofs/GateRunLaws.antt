-- M10'S RUN, by the definitions throughout: its plan is accepted, so the run is not refused; its script is that of GateScript.antt, so the run of these words
-- can be computed.
-- Assumes nothing.
use mathlib.Core.Path.{◌≡◌, refl, sym, ap, ◌∙◌}
use mathlib.Core.Bool.{true}
use mathlib.Core.List.{List, [], ◌∷◌, ◌++◌}
use Prim.Native.Nat.{ℕ, ◌≤◌, ◌<◌}
use native.Mathlib.Omega.{arith}
use lib.Dec.{eqb}
use lib.ListN.{length, get_or, replicate}
use Rattle.words.specs.Bit.{bit, bit_at, word_of}
use Rattle.words.specs.Count.{same, count}
use Rattle.words.specs.Edition.{levels_for}
use Rattle.words.specs.Sum.{sum_to}
use Rattle.words.specs.Section.{word_of_entry, half_of, list_of}
use Rattle.words.proofs.ListLaws.{zeros_at}
use Rattle.reads.specs.ReadTurn.{appended, lane_word}
use Rattle.plan_record.specs.Record.{blocks_of}
use Rattle.plan_blocks.specs.Blocks.{block_of, taken_before, sram_of, state_start, sram_start}
use Rattle.plan_blocks.proofs.BlockOrderLaws.{before_self}
use Rattle.script_assembly.specs.Assembly.{block_parts, words_of_part, joined_parts, block_words, stage_words, major_words, script_words, block_start, stage_starts, major_starts, script_starts}
use Rattle.script_assembly.specs.WrittenSoFar.{parts_in}
use Rattle.script_assembly.proofs.BlockRankLaws.{early_block}
use Rattle.run_machine.specs.Part.{normal_at, end_at, location_in, read_word_at, read_mask_at, section_at, entry_at, lane_word_at}
use Rattle.run_machine.specs.Turn.{state_word, read_row, gate, gate_at, level_bit, position_bit, stage_row, captured, begins, ended, after_read, after_stage, after_store, chosen_bits, stored_word, stored, turned, written}
use Rattle.run_machine.specs.Run.{blocks_from, step, run_from, run_turns, ran, run_answer}
use Rattle.promise.specs.Promise.{assembled, starts_of, stage_run, turns_of, Kept}
use Rattle.promise.proofs.FinishLaws.{finished}
use Rattle.marked_plan.specs.GatePlan.{gate_record}
use Rattle.marked_plan.specs.GateScript.{gate_numbers, place_words, one_round, gate_section, always_on, gate_three}
use Rattle.marked_plan.specs.GateRun.{three_turns, gate_answer}
use Rattle.marked_plan.proofs.GateRecordLaws.{gate_lanes_lem, blocks_one, majors_one, parts_one, none_earlier, stages_one}
use Rattle.marked_plan.proofs.GateAcceptedLaws.{state_first, state_two, gate_accepted}
use Rattle.marked_plan.proofs.GateScriptLaws.{gate_script}

abbrev d : List ℕ
d = gate_record

-- ---- the one part, in the one block

block_zero : block_of d 0 0 ≡ 0
block_zero = early_block d 0 0 (omega (arith, blocks_one))

parts_are : parts_in d 0 0 ≡ 0 ∷ []
unfolding block_parts
parts_are = let here : eqb (block_of d 0 0) 0 ≡ true = rw block_zero in rw (parts_one, here, block_parts)

none_before : (words : ℕ → ℕ) → taken_before (block_of d 0) words 1 0 ≡ 0
unfolding taken_before sum_to
none_before words = rw (before_self (block_of d 0) 0)

state_one : state_start d 0 0 ≡ 1
unfolding state_start
state_one = rw (state_first, parts_one, none_before)

sram_zero : sram_start d 0 0 ≡ 0
unfolding sram_start sram_of sum_to
sram_zero = rw (none_earlier, parts_one, none_before)

part_words_lem : words_of_part 256 d 0 0 1 ≡ gate_three
unfolding words_of_part
part_words_lem = rw (none_earlier, state_one, sram_zero, gate_script)

-- ---- assembled

block_is : block_words 256 d 0 (parts_in d 0 0) ≡ gate_three
unfolding block_words joined_parts
block_is = rw (parts_are, part_words_lem)

stage_is : stage_words 256 d 0 1 ≡ gate_three
unfolding stage_words
stage_is = rw block_is

majors_are : major_words 256 d 1 ≡ gate_three
unfolding major_words
majors_are = rw (blocks_one, stage_is)

words_are : assembled d ≡ gate_three ++ replicate 2048 0
unfolding script_words
words_are = rw (gate_lanes_lem, majors_one, majors_are)

gate_length : length gate_three ≡ 16128
unfolding gate_three gate_numbers place_words one_round gate_section always_on
gate_length = refl

start_zero : block_start 256 d 0 0 ≡ 0
unfolding block_start major_words stage_words
start_zero = refl

starts_are : starts_of d 0 ≡ 0 ∷ 16128 ∷ []
unfolding script_starts major_starts stage_starts
starts_are = rw (gate_lanes_lem, majors_one, blocks_one, majors_are, gate_length, start_zero)

-- ---- the run

turns_three : turns_of d 0 0 ≡ 3
unfolding turns_of sum_to
turns_three = rw (parts_are, none_earlier, stages_one)

three_zeros : count 0 three_turns ≡ 3
unfolding count same
three_zeros = refl

enough : (b : ℕ) → b < blocks_of d → turns_of d 0 b ≤ count b three_turns
enough b l =
    let z : b ≡ 0 = omega (arith, blocks_one) in
    rw z (omega (arith, turns_three, three_zeros))

named : (i : ℕ) → i < length three_turns → get_or three_turns i 0 < blocks_of d
named i l = omega (arith, blocks_one, zeros_at 3 i)

-- the premises of demand 3 are met, whatever the old word is: the run is not refused, leaves no turns, and keeps what is promised
pub not_refused : (old : ℕ)
    → (gate_answer old ≡ ran 0 (stage_run d 0 three_turns (old ∷ 0 ∷ []) (0 ∷ 0 ∷ [])).new)
    × Kept d 0 (old ∷ 0 ∷ []) (0 ∷ 0 ∷ []) (stage_run d 0 three_turns (old ∷ 0 ∷ []) (0 ∷ 0 ∷ [])).new
unfolding gate_answer levels_for
not_refused old =
    let edition = ap (λ (n : ℕ). run_answer n (levels_for n) (assembled d) (starts_of d 0) three_turns (old ∷ 0 ∷ []) (0 ∷ 0 ∷ []) 1024) (sym gate_lanes_lem) in
    let (answer, kept) =
    finished d 0 three_turns (old ∷ 0 ∷ []) (0 ∷ 0 ∷ []) 1024 gate_accepted (omega (arith, majors_one)) (sym state_two) (sym state_two) (omega (arith, blocks_one)) named enough in
    (edition ∙ answer, kept)

stage_run_lem : (old : ℕ) → (stage_run d 0 three_turns (old ∷ 0 ∷ []) (0 ∷ 0 ∷ [])).new
    ≡ (run_turns 256 13 (gate_three ++ replicate 2048 0) (0 ∷ 16128 ∷ []) three_turns (old ∷ 0 ∷ []) (0 ∷ 0 ∷ [])).new
unfolding levels_for
stage_run_lem old = rw (words_are, starts_are, gate_lanes_lem)

run_one : (run_turns 256 13 (gate_three ++ replicate 2048 0) (0 ∷ 16128 ∷ []) three_turns (1 ∷ 0 ∷ []) (0 ∷ 0 ∷ [])).new ≡ 0 ∷ 1 ∷ []
unfolding bit bit_at word_of word_of_entry half_of list_of sum_to appended lane_word normal_at end_at location_in read_word_at read_mask_at section_at entry_at lane_word_at state_word read_row gate gate_at
    level_bit position_bit stage_row captured begins ended after_read after_stage after_store chosen_bits stored_word stored turned written blocks_from step run_from gate_three gate_numbers place_words
    one_round gate_section always_on
run_one = refl

run_three : (run_turns 256 13 (gate_three ++ replicate 2048 0) (0 ∷ 16128 ∷ []) three_turns (3 ∷ 0 ∷ []) (0 ∷ 0 ∷ [])).new ≡ 0 ∷ 0xFFFFFFFE ∷ []
unfolding bit bit_at word_of word_of_entry half_of list_of sum_to appended lane_word normal_at end_at location_in read_word_at read_mask_at section_at entry_at lane_word_at state_word read_row gate gate_at
    level_bit position_bit stage_row captured begins ended after_read after_stage after_store chosen_bits stored_word stored turned written blocks_from step run_from gate_three gate_numbers place_words
    one_round gate_section always_on
run_three = refl

-- "old word 1 stores 1, old word 3 stores 0xFFFFFFFE"; with no turns left
pub answer_one : gate_answer 1 ≡ ran 0 (0 ∷ 1 ∷ [])
answer_one = (not_refused 1).0 ∙ ap (ran 0) (stage_run_lem 1 ∙ run_one)

pub answer_three : gate_answer 3 ≡ ran 0 (0 ∷ 0xFFFFFFFE ∷ [])
answer_three = (not_refused 3).0 ∙ ap (ran 0) (stage_run_lem 3 ∙ run_three)
