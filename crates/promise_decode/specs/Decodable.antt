-- What an accepted plan gives of a part, as far as its script's words depend on it: every number fits the half or the word that it is written to.
-- Assumes nothing.
use Rattle.std.specs.Prelude.{◌≡◌, List, ℕ, ◌+◌, ◌*◌, ◌≤◌, ◌<◌, length}
use Rattle.plan_record.specs.Record.{plan_lanes, slots_of, stages_of, locations_of, location_at, table_at}
use Rattle.plan_reads.specs.PartReads.{part_lanes}
use Rattle.script.specs.Script.{stage_entry}

pub record Decodable (d : List ℕ) (p : ℕ) : Type 0 where
  pub location : (l : ℕ) → l < locations_of d p → location_at d p l < plan_lanes d
  pub locations : locations_of d p ≤ plan_lanes d
  pub some_stages : 1 ≤ stages_of d p
  pub stages : stages_of d p ≤ 255
  pub entry : (k i : ℕ) → k < stages_of d p → i < slots_of d → stage_entry (plan_lanes d) d p k i < slots_of d
  pub sram : (i : ℕ) → i < slots_of d → table_at d p i < slots_of d
  pub enable : (i : ℕ) → i < slots_of d → table_at d p (34 * plan_lanes d + i) < slots_of d
  pub wide : length (part_lanes (plan_lanes d) d p) ≡ plan_lanes d
