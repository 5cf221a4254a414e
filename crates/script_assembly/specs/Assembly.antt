-- The assembled script: document 01, "Blocks and offsets", second half. n is the number of lanes.
-- Assumes nothing.
use Rattle.std.specs.Prelude.{true, false, List, [], ◌∷◌, ◌++◌, ℕ, zero, suc, ◌+◌, ◌*◌, ◌-◌, eqb, length, replicate}
use Rattle.plan_record.specs.Record.{blocks_of, majors_of, parts_before, count_at}
use Rattle.plan_blocks.specs.Blocks.{block_of, state_start, sram_start}
use Rattle.script.specs.Script.{part_script}

-- "Data is laid stage by stage, block by block; an empty block is 256 words, zero but word 1 = 1."

-- the parts of block b among the first m parts of major stage s, in the order in which they were put there
unfoldable pub block_parts : List ℕ → ℕ → ℕ → ℕ → List ℕ
block_parts d s b zero = []
block_parts d s b (suc i) = elim (eqb (block_of d s i) b) [ true ↦ block_parts d s b i ++ (i ∷ []) | false ↦ block_parts d s b i ]

-- the words of part i of major stage s
unfoldable pub words_of_part : ℕ → List ℕ → ℕ → ℕ → ℕ → List ℕ
words_of_part n d s i last = part_script n d (parts_before d s + i) last (state_start d s i) (sram_start d s i)

-- "1 on the last part of a block"
unfoldable pub joined_parts : ℕ → List ℕ → ℕ → List ℕ → List ℕ
joined_parts n d s [] = []
joined_parts n d s (i ∷ []) = words_of_part n d s i 1
joined_parts n d s (i ∷ j ∷ is) = words_of_part n d s i 0 ++ joined_parts n d s (j ∷ is)

unfoldable pub block_words : ℕ → List ℕ → ℕ → List ℕ → List ℕ
block_words n d s [] = 0 ∷ 1 ∷ replicate (n - 2) 0
block_words n d s (i ∷ is) = joined_parts n d s (i ∷ is)

-- the first b blocks of major stage s, and the first s major stages
unfoldable pub stage_words : ℕ → List ℕ → ℕ → ℕ → List ℕ
stage_words n d s zero = []
stage_words n d s (suc b) = stage_words n d s b ++ block_words n d s (block_parts d s b (count_at d s))

unfoldable pub major_words : ℕ → List ℕ → ℕ → List ℕ
major_words n d zero = []
major_words n d (suc s) = major_words n d s ++ stage_words n d s (blocks_of d)

-- "One final start, then 2048 zero words."
unfoldable pub script_words : ℕ → List ℕ → List ℕ
script_words n d = major_words n d (majors_of d) ++ replicate (8 * n) 0

-- the start of block b of major stage s, and all starts: stage by stage, block by block, then the end
unfoldable pub block_start : ℕ → List ℕ → ℕ → ℕ → ℕ
block_start n d s b = length (major_words n d s) + length (stage_words n d s b)

unfoldable pub stage_starts : ℕ → List ℕ → ℕ → ℕ → List ℕ
stage_starts n d s zero = []
stage_starts n d s (suc b) = stage_starts n d s b ++ (block_start n d s b ∷ [])

unfoldable pub major_starts : ℕ → List ℕ → ℕ → List ℕ
major_starts n d zero = []
major_starts n d (suc s) = major_starts n d s ++ stage_starts n d s (blocks_of d)

unfoldable pub script_starts : ℕ → List ℕ → List ℕ
script_starts n d = major_starts n d (majors_of d) ++ (length (major_words n d (majors_of d)) ∷ [])
