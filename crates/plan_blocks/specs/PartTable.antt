-- What the part table of a plan holds, by the names of its columns. The rounds of a part are put beside these when its reads are searched.
-- Assumes nothing.
use Rattle.std.specs.Prelude.{◌≡◌, List, ℕ, ◌+◌, ◌/◌, ◌%◌, ◌^◌, ◌<◌}
use Rattle.plan_rows.specs.Columns as col
use Rattle.plan_rows.specs.Rows.{cell_at}
use Rattle.plan_record.specs.Record.{parts_of, count_at, majors_of, parts_before, body_at, locations_of}
use Rattle.plan_counts.specs.Counts.{srams, duplicates, write_outs}
use Rattle.plan_blocks.specs.Blocks.{block_of, taken_before, state_start, sram_start}

-- how many parts of the plan come before part i of major stage s: "stage by stage, block by block"
unfoldable pub rank_of : List ℕ → ℕ → ℕ → ℕ
rank_of d s i = parts_before d s + taken_before (block_of d s) (λ j. 1) (count_at d s) i

-- what the record says of the part
pub record Counted (d room : List ℕ) (p : ℕ) : Type 0 where
  pub body-low : cell_at room p col.body_low ≡ body_at d p % 2 ^ 32
  pub body-high : cell_at room p col.body_high ≡ body_at d p / 2 ^ 32
  pub locations : cell_at room p col.locations ≡ locations_of d p
  pub sram-count : cell_at room p col.srams ≡ srams d p
  pub duplicate-words : cell_at room p col.duplicates ≡ duplicates d p
  pub write-outs : cell_at room p col.write_outs ≡ write_outs d p

-- what the blocks give part i of major stage s, and the row of its rank, which names it
pub record Allotted (d room : List ℕ) (s i : ℕ) : Type 0 where
  pub block : cell_at room (parts_before d s + i) col.block ≡ block_of d s i
  pub state-start : cell_at room (parts_before d s + i) col.state_start ≡ state_start d s i
  pub sram-start : cell_at room (parts_before d s + i) col.sram_start ≡ sram_start d s i
  pub ranked : cell_at room (rank_of d s i) col.ranked ≡ parts_before d s + i

-- the whole table
pub record Tabled (d room : List ℕ) : Type 0 where
  pub counted : (p : ℕ) → p < parts_of d → Counted d room p
  pub allotted : (s i : ℕ) → s < majors_of d → i < count_at d s → Allotted d room s i
