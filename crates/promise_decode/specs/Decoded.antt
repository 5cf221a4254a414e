-- A part's script read back: what the run finds in words that are the script of part p of plan d. n is the number of lanes.
-- Assumes nothing.
use Rattle.std.specs.Prelude.{◌≡◌, List, [], ℕ, ◌+◌, ◌*◌, ◌/◌, ◌%◌, ◌<◌, length, get_or}
use Rattle.words.specs.Bit.{bit}
use Rattle.reads.specs.Search.{longest}
use Rattle.reads.specs.Local.{word_in, mask_in}
use Rattle.plan_record.specs.Record.{stages_of, locations_of, location_at, table_at}
use Rattle.plan_counts.specs.Counts.{srams, duplicates, write_outs}
use Rattle.plan_reads.specs.PartReads.{part_lanes}
use Rattle.script.specs.Script.{location_stage, stage_entry, xora_bit, xorb_bit, orb_bit, part_script}
use Rattle.run_machine.specs.Part.{stages_at, last_at, write_outs_at, start_at, srams_at, rounds_at, duplicates_at, normal_at, end_at, location_in, read_word_at, read_mask_at, entry_at, lane_word_at}

-- the script of part p stands in the words W from word o on
abbrev pub StandsAt : ℕ → List ℕ → ℕ → ℕ → ℕ → ℕ → List ℕ → ℕ → Type 0
StandsAt n d p last state sram W o =
    (j : ℕ) → j < length (part_script n d p last state sram) → get_or W (o + j) 0 ≡ get_or (part_script n d p last state sram) j 0

-- what is then found there
pub record Decoded (n : ℕ) (d : List ℕ) (p last state sram : ℕ) (W : List ℕ) (o : ℕ) : Type 0 where
  pub stages : stages_at W o ≡ stages_of d p
  pub last-mark : last_at W o ≡ last
  pub write-outs : write_outs_at W o ≡ write_outs d p
  pub start : start_at W o ≡ state
  pub sram-count : srams_at W o ≡ srams d p
  pub rounds : rounds_at W o ≡ longest (part_lanes n d p)
  pub duplicate-words : duplicates_at W o ≡ duplicates d p
  pub normal : normal_at W o ≡ locations_of d p
  pub end : end_at n W o ≡ o + length (part_script n d p last state sram)
  pub location : (l : ℕ) → l < locations_of d p → location_in n W o l ≡ 256 * location_stage d p l + location_at d p l
  pub read_word : (r i : ℕ) → r < longest (part_lanes n d p) → i < n → read_word_at n W o r i ≡ word_in (get_or (part_lanes n d p) i []) r
  pub read_mask : (r i : ℕ) → r < longest (part_lanes n d p) → i < n → read_mask_at n W o r i ≡ mask_in (get_or (part_lanes n d p) i []) r
  pub entry : (k i : ℕ) → k < stages_of d p → i < 32 * n → entry_at n W o k i ≡ stage_entry n d p k i
  pub sram_entry : (i : ℕ) → i < 32 * n → entry_at n W o (stages_of d p) i ≡ table_at d p i
  pub enable_entry_lem : (i : ℕ) → i < 32 * n → entry_at n W o (stages_of d p + 1) i ≡ table_at d p (34 * n + i)
  pub xora : (k q : ℕ) → k < stages_of d p → q < 32 * n → bit (lane_word_at n W o k (q / 32) 0) (q % 32) ≡ xora_bit d p k q
  pub xorb : (k q : ℕ) → k < stages_of d p → q < 32 * n → bit (lane_word_at n W o k (q / 32) 1) (q % 32) ≡ xorb_bit d p k q
  pub orb : (k q : ℕ) → k < stages_of d p → q < 32 * n → bit (lane_word_at n W o k (q / 32) 2) (q % 32) ≡ orb_bit d p k q
  pub enable-inv : (w : ℕ) → w < n → lane_word_at n W o (stages_of d p + 1) w 0 ≡ table_at d p (66 * n + w)
  pub enable-set0 : (w : ℕ) → w < n → lane_word_at n W o (stages_of d p + 1) w 1 ≡ table_at d p (67 * n + w)
  pub data-inv : (w : ℕ) → w < n → lane_word_at n W o (stages_of d p + 1) w 2 ≡ table_at d p (68 * n + w)
