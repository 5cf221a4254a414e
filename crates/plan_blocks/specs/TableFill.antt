-- How the part table is filled, cell by cell, and what the functions that do it ask for.
-- Assumes nothing.
use Rattle.std.specs.Prelude.{◌≡◌, true, false, List, ℕ, zero, suc, ◌+◌, ◌*◌, ◌/◌, ◌%◌, ◌^◌, ◌≤◌, ◌<◌, length, get_or, set, replicate}
use Rattle.std.proofs.Math.Option.{none}
use Rattle.words.specs.Sum.{sum_to}
use Rattle.words.specs.Section.{list_of}
use Rattle.plan_record.specs.Record.{blocks_of, majors_of, count_at, parts_before, parts_of, stages_of, body_at, locations_of}
use Rattle.plan_record.specs.Form.{plan_form}
use Rattle.plan_record.specs.declared.bodies.Body.{Body}
use Rattle.plan_rows.specs.Columns as col
use Rattle.plan_rows.specs.Rows.{row_base, cell, cell_at}
use Rattle.plan_counts.specs.Counts.{srams, duplicates, write_outs, refusal7}
use Rattle.plan_counts.specs.Parts.{Countable}
use Rattle.plan_blocks.specs.Blocks.{block_in, block_of, taken_before, state_of, sram_of, state_start, sram_start, totals_fit}
use Rattle.plan_blocks.specs.declared.costs.BlockCost.{BlockCost}
use Rattle.plan_blocks.specs.declared.firsts.Firsts.{Firsts}
use Rattle.plan_blocks.specs.Sums.{in_block}
use Rattle.plan_blocks.specs.PartTable.{rank_of, Counted}

-- word k of the rows that `row` names, for each of the first n numbers
unfoldable pub put_cells : List ℕ → ℕ → (ℕ → ℕ) → (ℕ → ℕ) → ℕ → List ℕ
put_cells room k row value zero = room
put_cells room k row value (suc n) = set (put_cells room k row value n) (cell (row n) k) (value n)

-- word k of the row of part i, the parts being counted from `base` on
unfoldable pub column : List ℕ → ℕ → ℕ → ℕ → ℕ
column room base k i = cell_at room (base + i) k

-- the block of part p, as its row says, and sums with w added to that of block b
abbrev pub block_at : List ℕ → ℕ → ℕ
block_at room p = cell_at room p col.block

abbrev pub added : List ℕ → ℕ → ℕ → List ℕ
added sums b w = set sums b (get_or sums b 0 + w)

-- a block without parts; the running costs and the part counts of the first n blocks
abbrev pub blank : BlockCost
blank = record { parts = 0; cost = 0 }

unfoldable pub costs_of : ℕ → List BlockCost → List ℕ
costs_of n blocks = list_of (λ b. (get_or blocks b blank).cost) n

unfoldable pub block_part_counts : ℕ → List BlockCost → List ℕ
block_part_counts n blocks = list_of (λ b. (get_or blocks b blank).parts) n

-- the blocks with a part more, of cost c, in block b
abbrev pub with_part : List BlockCost → ℕ → ℕ → List BlockCost
with_part blocks b c = set blocks b (record { parts = (get_or blocks b blank).parts + 1; cost = (get_or blocks b blank).cost + c })

-- what part i takes: `scale` times word `from` of its row
abbrev pub takes : List ℕ → ℕ → ℕ → ℕ → ℕ → ℕ
takes room base from scale i = scale * column room base from i

-- the block of part i, of B blocks
abbrev pub block_from : List ℕ → ℕ → ℕ → ℕ → ℕ
block_from d B base i = block_in B (λ j. stages_of d (base + j)) i

-- the sums of the blocks after n parts that take `words` each were added, and where part i then starts
abbrev pub sums_in : List ℕ → List ℕ → ℕ → (ℕ → ℕ) → ℕ → List ℕ
sums_in room sums base words n = list_of (λ b. get_or sums b 0 + in_block (column room base col.block) words b n) (length sums)

abbrev pub start_in : List ℕ → List ℕ → ℕ → (ℕ → ℕ) → ℕ → ℕ
start_in room sums base words i = get_or sums (column room base col.block i) 0 + in_block (column room base col.block) words (column room base col.block i) i

-- the rows with the parts' blocks, and how many parts each block has
abbrev pub placed_rows : List ℕ → List ℕ → ℕ → ℕ → ℕ → List ℕ
placed_rows d room B base count = put_cells room col.block (λ i. base + i) (block_from d B base) count

abbrev pub part_counts : List ℕ → ℕ → ℕ → ℕ → List ℕ
part_counts d B base count = list_of (λ b. in_block (block_from d B base) (λ i. 1) b count) B

-- the rows with the parts' blocks and ranks, and with what comes before each part, from `first` on
abbrev pub ranked_rows : List ℕ → List ℕ → ℕ → ℕ → ℕ → List ℕ
ranked_rows d room B base count =
    put_cells (placed_rows d room B base count)
    col.ranked (λ i. base + taken_before (block_from d B base) (λ j. 1) count i) (λ i. base + i) count

abbrev pub started_rows : List ℕ → ℕ → ℕ → ℕ → ℕ → ℕ → ℕ → List ℕ
started_rows room base count from scale to first =
    put_cells room to (λ i. base + i) (λ i. first + taken_before (column room base col.block) (takes room base from scale) count i) count

-- ---- the whole table

-- the words of the rows that the blocks give: blocks, ranks, state starts and SRAM starts of major stage s
unfoldable pub stage_rows : List ℕ → List ℕ → ℕ → List ℕ
stage_rows d room s =
    put_cells (put_cells
    (put_cells (put_cells room col.block (λ i. parts_before d s + i) (block_of d s) (count_at d s)) col.ranked (rank_of d s) (λ i. parts_before d s + i) (count_at d s))
    col.state_start (λ i. parts_before d s + i) (state_start d s) (count_at d s)) col.sram_start (λ i. parts_before d s + i) (sram_start d s) (count_at d s)

-- of the first s major stages
unfoldable pub allot_rows : List ℕ → List ℕ → ℕ → List ℕ
allot_rows d room zero = room
allot_rows d room (suc s) = stage_rows d (allot_rows d room s) s

-- the words that the record gives: body, locations, SRAMs, duplicates and write-outs of part p, and of the first n parts
unfoldable pub count_row : List ℕ → List ℕ → ℕ → List ℕ
count_row d room p =
    set (set (set (set (set (set room (cell p col.body_low) (body_at d p % 2 ^ 32)) (cell p col.body_high) (body_at d p / 2 ^ 32)) (cell p col.locations) (locations_of d p)) (cell p col.srams) (srams d p))
    (cell p col.duplicates) (duplicates d p)) (cell p col.write_outs) (write_outs d p)

unfoldable pub count_rows : List ℕ → List ℕ → ℕ → List ℕ
count_rows d room zero = room
count_rows d room (suc p) = count_row d (count_rows d room p) p

-- the room after the parts are counted, and after they have their starts where these fit
unfoldable pub counted_room : List ℕ → List ℕ → List ℕ
counted_room d room = count_rows d room (parts_of d)

unfoldable pub tabled_room : List ℕ → List ℕ → List ℕ
tabled_room d room = allot_rows d (counted_room d room) (majors_of d)

unfoldable pub allotted_room : List ℕ → List ℕ → List ℕ
allotted_room d room = elim (totals_fit d) [ true ↦ tabled_room d room | false ↦ counted_room d room ]

-- ---- what is asked for

-- the rows of the parts are in the room, and each part has a block
pub record Rows (room : List ℕ) (blocks base count : ℕ) : Type 0 where
  pub few : count ≤ 4096
  pub parts : base + count ≤ 262144
  pub inside : row_base (base + count) ≤ length room
  pub block : (i : ℕ) → i < count → column room base col.block i < blocks

-- a part more in block b
pub record PartPuttable (blocks : List BlockCost) (b cost : ℕ) : Type 0 where
  pub inside : b < length blocks
  pub number : (get_or blocks b blank).parts + 1 < 2 ^ 32
  pub fits : (get_or blocks b blank).cost + cost < 2 ^ 32

-- the row of part p is in the room, and the words that it adds to its block's sum fit
pub record Addable (room sums : List ℕ) (p from scale : ℕ) : Type 0 where
  pub part : p < 262144
  pub inside : row_base p + 16 ≤ length room
  pub word : from < 16
  pub block : block_at room p < length sums
  pub fits : get_or sums (block_at room p) 0 + scale * cell_at room p from < 2 ^ 32

-- and so for its rank, which is below `count`
pub record RankReady (room sums : List ℕ) (base count i : ℕ) : Type 0 where
  pub part : base + count ≤ 262144
  pub number : i < count
  pub inside : row_base (base + count) ≤ length room
  pub block : block_at room (base + i) < length sums
  pub rank : get_or sums (block_at room (base + i)) 0 < count

-- the sums are zero, and will fit
pub record Summable (room sums : List ℕ) (base count from scale : ℕ) : Type 0 where
  pub rows : Rows room (length sums) base count
  pub word : from < 16
  pub zeros : sums ≡ replicate (length sums) 0
  pub fits : sum_to (takes room base from scale) count < 2 ^ 32

-- the starts of the blocks, to which the parts' words are added, fit
pub record Takeable (room sums : List ℕ) (base count from scale to : ℕ) : Type 0 where
  pub rows : Rows room (length sums) base count
  pub word : from < 16
  pub other : (to < 16) × (to ≡ col.block → ⊥) × (to ≡ from → ⊥)
  pub fits : (b : ℕ) → b < length sums → get_or sums b 0 + in_block (column room base col.block) (takes room base from scale) b count < 2 ^ 32

-- the parts' ranks are below their number
pub record Rankable (room sums : List ℕ) (base count : ℕ) : Type 0 where
  pub rows : Rows room (length sums) base count
  pub below : (b : ℕ) → b < length sums → get_or sums b 0 + in_block (column room base col.block) (λ i. 1) b count ≤ count

-- the parts of a major stage may be placed
pub record StagePlaceable (d room : List ℕ) (blocks base count : ℕ) : Type 0 where
  pub few : count ≤ 4096
  pub parts : base + count ≤ 262144
  pub inside : row_base (base + count) ≤ length room
  pub some_block : 0 < blocks
  pub few-blocks : blocks ≤ 1024
  pub stages : (i : ℕ) → i < count → stages_of d (base + i) ≤ 255

-- and summed
pub record StageSummable (room : List ℕ) (blocks base count from scale to first : ℕ) : Type 0 where
  pub rows : Rows room blocks base count
  pub few-blocks : blocks ≤ 1024
  pub word : from < 16
  pub other : (to < 16) × (to ≡ col.block → ⊥) × (to ≡ from → ⊥)
  pub fits : first + sum_to (takes room base from scale) count < 2 ^ 32

-- f holds what comes before major stage s
pub record FirstsOf (d : List ℕ) (s : ℕ) (f : Firsts) : Type 0 where
  pub parts : f.parts ≡ parts_before d s
  pub state : f.state ≡ state_of d s
  pub sram : f.sram ≡ sram_of d s

-- the parts are counted, their totals fit, and major stage s is next
pub record StageReady (d room : List ℕ) (s blocks count : ℕ) (f : Firsts) : Type 0 where
  pub form : plan_form d ≡ true
  pub totals : totals_fit d ≡ true
  pub inside : row_base (parts_of d) ≤ length room
  pub counted : (p : ℕ) → p < parts_of d → Counted d room p
  pub stage : s < majors_of d
  pub blocks-are : blocks ≡ blocks_of d
  pub count-is : count ≡ count_at d s
  pub firsts : FirstsOf d s f

-- the record is in form, and its table has room
pub record TableInForm (d room : List ℕ) : Type 0 where
  pub form : plan_form d ≡ true
  pub inside : row_base (parts_of d) ≤ length room

-- and no part is refused by 7
pub record TableFillable (d room : List ℕ) : Type 0 where
  pub ready : TableInForm d room
  pub counts : refusal7 d ≡ none

-- one part's row may be filled
pub record RowReady (d room : List ℕ) (p : ℕ) (b : Body) : Type 0 where
  pub part : p < 262144
  pub inside : row_base p + 16 ≤ length room
  pub countable : Countable d p b
  pub few : write_outs d p ≤ 256

-- the parts are counted
pub record Tallied (d room : List ℕ) : Type 0 where
  pub ready : TableInForm d room
  pub counted : (p : ℕ) → p < parts_of d → Counted d room p

-- and their totals fit
pub record Allottable (d room : List ℕ) : Type 0 where
  pub tallied : Tallied d room
  pub totals : totals_fit d ≡ true
