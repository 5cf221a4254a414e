-- The entries of stage 0, and what is known of a part's numbered pairs when they are made. n is the number of lanes.
-- Assumes nothing.
use Rattle.std.specs.Prelude.{◌≡◌, true, false, List, ℕ, ◌*◌, ◌<◌, eqb}
use Rattle.plan_record.specs.Record.{slots_of, level_at}
use Rattle.words.specs.Pins.{empty}
use Rattle.plan_winners.specs.Planned.{planned}
use Rattle.plan_reads.specs.PartReads.{part_lanes, local_position}
use Rattle.plan_reads.specs.ReadsReady.{planned_number}
use Rattle.reads_local.specs.Bases.{local_by, Locatable}

-- "Entry i of a stage is 0 for an empty slot. Else in stage 0 it is the local position of the pin's state bit"
unfoldable pub first_entry : ℕ → List ℕ → ℕ → ℕ → ℕ
first_entry n d p i =
    elim (eqb (level_at d p 0 i) empty) [ true ↦ 0 | false ↦ local_position (part_lanes n d p) (planned d (level_at d p 0 i)) ]

-- the pin of slot j is found at its local position
pub record NumberedAt (n : ℕ) (d : List ℕ) (p : ℕ) (set bases : List ℕ) (j : ℕ) : Type 0 where
  pub placeable : Locatable set bases (planned_number (planned d (level_at d p 0 j)))
  pub is : local_by set bases (planned_number (planned d (level_at d p 0 j))) ≡ local_position (part_lanes n d p) (planned d (level_at d p 0 j))
  pub below : local_by set bases (planned_number (planned d (level_at d p 0 j))) < 32 * n

-- so it is for each that is not empty
abbrev pub AllNumbered : ℕ → List ℕ → ℕ → List ℕ → List ℕ → Type 0
AllNumbered n d p set bases = (j : ℕ) → j < slots_of d → (level_at d p 0 j ≡ empty → ⊥) → NumberedAt n d p set bases j
