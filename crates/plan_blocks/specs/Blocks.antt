-- Parts to blocks, state and SRAM starts, and refusal 8: document 01, "Blocks and offsets". Parts of a major stage are counted from 0 here:
-- part i of major stage s is part parts_before d s + i of the plan.
-- Assumes nothing.
use Rattle.std.specs.Prelude.{Bool, true, false, ◌&&◌, ◌||◌, List, ℕ, zero, suc, ◌+◌, ◌*◌, ◌-◌, ◌/◌, ◌^◌, leb, ltb, eqb, get_or, set, replicate}
use Rattle.words.specs.Sum.{sum_to}
use Rattle.plan_record.specs.Record.{blocks_of, majors_of, layout_of, count_at, parts_before, stages_of}
use Rattle.plan_counts.specs.Counts.{srams, write_outs}

-- "the block of least total cost, lowest number on a tie": the best of the first n + 1 costs
unfoldable pub least_to : List ℕ → ℕ → ℕ
least_to costs zero = 0
least_to costs (suc n) = elim (ltb (get_or costs (suc n) 0) (get_or costs (least_to costs n) 0)) [ true ↦ suc n | false ↦ least_to costs n ]

-- "Parts 0..blocks−1 go one to a block. Each later part goes to the block of least total cost": B blocks, part i
unfoldable pub block_for : ℕ → List ℕ → ℕ → ℕ
block_for B costs i = elim (ltb i B) [ true ↦ i | false ↦ least_to costs (B - 1) ]

-- "A part costs stages + 3": the running costs of the blocks after the first i parts, whose stages f gives
unfoldable pub costs_after : ℕ → (ℕ → ℕ) → ℕ → List ℕ
costs_after B f zero = replicate B 0
costs_after B f (suc i) =
    set (costs_after B f i) (block_for B (costs_after B f i) i) (get_or (costs_after B f i) (block_for B (costs_after B f i) i) 0 + (f i + 3))

-- the block of part i
unfoldable pub block_in : ℕ → (ℕ → ℕ) → ℕ → ℕ
block_in B f i = block_for B (costs_after B f i) i

-- the block of part i of major stage s
unfoldable pub block_of : List ℕ → ℕ → ℕ → ℕ
block_of d s i = block_in (blocks_of d) (λ j. stages_of d (parts_before d s + j)) i

-- "block by block", in a block in the order in which its parts were put there: part j comes before part i
unfoldable pub comes_before : (ℕ → ℕ) → ℕ → ℕ → Bool
comes_before block i j = ltb (block j) (block i) || (eqb (block j) (block i) && ltb j i)

-- what the parts before part i take together, of c parts that take `words` each
unfoldable pub taken_before : (ℕ → ℕ) → (ℕ → ℕ) → ℕ → ℕ → ℕ
taken_before block words c i = sum_to (λ j. elim (comes_before block i j) [ true ↦ words j | false ↦ 0 ]) c

-- "State starts at the input layout's words (length/32 rounded up) and advances by write-out words"; "Major stages continue both sums"
unfoldable pub state_of : List ℕ → ℕ → ℕ
state_of d s = (layout_of d + 31) / 32 + sum_to (write_outs d) (parts_before d s)

-- "SRAM start by 8192 per SRAM"
unfoldable pub sram_of : List ℕ → ℕ → ℕ
sram_of d s = sum_to (λ p. 8192 * srams d p) (parts_before d s)

-- the state start and the SRAM start of part i of major stage s
unfoldable pub state_start : List ℕ → ℕ → ℕ → ℕ
state_start d s i = state_of d s + taken_before (block_of d s) (λ j. write_outs d (parts_before d s + j)) (count_at d s) i

unfoldable pub sram_start : List ℕ → ℕ → ℕ → ℕ
sram_start d s i = sram_of d s + taken_before (block_of d s) (λ j. 8192 * srams d (parts_before d s + j)) (count_at d s) i

-- the sizes of the whole state and of all SRAM
abbrev pub state_words : List ℕ → ℕ
state_words d = state_of d (majors_of d)

abbrev pub sram_words : List ℕ → ℕ
sram_words d = sram_of d (majors_of d)

-- 8: "state above 2^27 words or SRAM above 2^32−1"
unfoldable pub totals_fit : List ℕ → Bool
totals_fit d = leb (state_words d) (2 ^ 27) && leb (sram_words d) (2 ^ 32 - 1)
