-- A block's room: the words that a run lends to each block, document 01, "1024 a block for a run", and what each of them is for. No other definition has
-- these numbers, and they are the same for every number of lanes n: 10/13, "working room .. stay".
-- Assumes nothing.
use Rattle.std.specs.Prelude.{List, [], ◌∷◌, ℕ, zero, suc, ◌+◌, ◌*◌, ◌/◌, ◌%◌, ◌^◌, get_or}
use Rattle.run_machine.specs.Turn.{Phase, to_read, to_stage, to_store, finished}

abbrev pub block_room : ℕ
block_room = 1024

-- from word 0 on the n words of the positions, from word n on those of the bits that a stage gathers; from here on the captured words
abbrev pub captured_from : ℕ
captured_from = 512

-- then the block's state: where its part begins, low 32 bits and high, its phase and its stage
abbrev pub part_low : ℕ
part_low = 768

abbrev pub part_high : ℕ
part_high = 769

abbrev pub phase_word : ℕ
phase_word = 770

abbrev pub stage_word : ℕ
stage_word = 771

-- ---- a phase as a word, and a word as a phase

unfoldable pub phase_code : Phase → ℕ
phase_code to_read = 0
phase_code to_stage = 1
phase_code to_store = 2
phase_code finished = 3

unfoldable pub phase_from : ℕ → Phase
phase_from zero = to_read
phase_from (suc zero) = to_stage
phase_from (suc (suc zero)) = to_store
phase_from (suc (suc (suc w))) = finished

-- ---- the state that room r holds

abbrev pub part_of : List ℕ → ℕ
part_of r = get_or r part_low 0 + 2 ^ 32 * get_or r part_high 0

abbrev pub phase_of : List ℕ → Phase
phase_of r = phase_from (get_or r phase_word 0)

abbrev pub stage_of : List ℕ → ℕ
stage_of r = get_or r stage_word 0

-- its words, from `part_low` on
unfoldable pub block_state_words : (part : ℕ) → Phase → (stage : ℕ) → List ℕ
block_state_words part phase stage = (part % 2 ^ 32) ∷ (part / 2 ^ 32) ∷ phase_code phase ∷ stage ∷ []
