-- The assembled script as it is written, part by part: what stands after the first parts of a block, and how long it is. n is the number of lanes.
-- Assumes nothing.
use Rattle.std.specs.Prelude.{true, false, List, [], ◌++◌, ℕ, zero, suc, ◌+◌, ◌-◌, eqb, length, get_or}
use Rattle.words.specs.Edition.{part_words}
use Rattle.words.specs.Sum.{sum_to}
use Rattle.reads.specs.Search.{longest}
use Rattle.plan_record.specs.Record.{blocks_of, count_at, parts_before, stages_of}
use Rattle.plan_rows.specs.Columns as col
use Rattle.plan_rows.specs.Rows.{cell_at}
use Rattle.plan_blocks.specs.Blocks.{block_of}
use Rattle.plan_blocks.specs.Sums.{in_block}
use Rattle.plan_reads.specs.PartReads.{part_lanes}
use Rattle.script_assembly.specs.Assembly.{block_parts, words_of_part, block_start}

-- "1 on the last part of a block": of part j of c parts
unfoldable pub last_mark : ℕ → ℕ → ℕ
last_mark c j = elim (eqb (j + 1) c) [ true ↦ 1 | false ↦ 0 ]

-- the words of the first j parts of a block whose parts are xs
unfoldable pub parts_words : ℕ → List ℕ → ℕ → List ℕ → ℕ → List ℕ
parts_words n d s xs zero = []
parts_words n d s xs (suc j) = parts_words n d s xs j ++ words_of_part n d s (get_or xs j 0) (last_mark (length xs) j)

-- how many words part p of the plan has
unfoldable pub length_of : ℕ → List ℕ → ℕ → ℕ
length_of n d p = part_words n (longest (part_lanes n d p)) (stages_of d p)

-- all parts of block b of major stage s
abbrev pub parts_in : List ℕ → ℕ → ℕ → List ℕ
parts_in d s b = block_parts d s b (count_at d s)

-- where part j of block b of major stage s begins
unfoldable pub part_start : ℕ → List ℕ → ℕ → ℕ → ℕ → ℕ
part_start n d s b j = block_start n d s b + length (parts_words n d s (parts_in d s b) j)

-- how many parts of the plan come before the parts of block b of major stage s: the rank of its first part, if it has one
unfoldable pub first_rank : List ℕ → ℕ → ℕ → ℕ
first_rank d s b = parts_before d s + sum_to (λ x. in_block (block_of d s) (λ i. 1) x (count_at d s)) b

-- the part of rank k, as the table says
abbrev pub ranked_at : List ℕ → ℕ → ℕ
ranked_at room k = cell_at room k col.ranked

-- the empty blocks of the first s major stages
unfoldable pub empty_blocks : List ℕ → ℕ → ℕ
empty_blocks d s = sum_to (λ t. blocks_of d - count_at d t) s
