-- What the bits of one part mean while it runs: document 01, "The run" and "The value of a pin by the gates". p is a part of plan d; W are words in
-- which its script stands from word o on; old and new are the two states.
-- Assumes nothing.
use Rattle.std.specs.Prelude.{◌≡◌, true, List, ℕ, ◌<◌}
use Rattle.std.proofs.Math.Option.{none}
use Rattle.words.specs.Bit.{bit_at}
use Rattle.words.specs.Answer.{good}
use Rattle.plan_record.specs.Record.{plan_lanes, slots_of, parts_of, stages_of, location_at, slot_at, level_at}
use Rattle.words.specs.Pins.{empty}
use Rattle.plan_record.specs.Form.{plan_form}
use Rattle.plan_gates.specs.Gates.{bad_gate}
use Rattle.plan_counts.specs.Counts.{refusal7}
use Rattle.plan_slots.specs.Slots.{refusal9, refusal10, refusal11}
use Rattle.plan_positions.specs.Positions.{refusal12}
use Rattle.values.specs.Values.{pin_value}
use Rattle.plan_reads.specs.PartReads.{part_reads, part_packed}
use Rattle.script.specs.Script.{location_stage}
use Rattle.run_machine.specs.Part.{entry_at}

-- what the plan's refusals leave: 5, 6, 7, 9 to 12 are excluded, and 3 and 4 of this part
pub record PassedPart (d : List ℕ) (p : ℕ) : Type 0 where
  pub form : plan_form d ≡ true
  pub gates : bad_gate d ≡ none
  pub seven : refusal7 d ≡ none
  pub nine : refusal9 d ≡ none
  pub ten : refusal10 d ≡ none
  pub eleven : refusal11 d ≡ none
  pub twelve : refusal12 d ≡ none
  pub part : p < parts_of d
  pub reads : part_reads (plan_lanes d) d p ≡ good (part_packed (plan_lanes d) d p)

-- where location l is captured: in a stage of the part, at the word of a lane
pub record LocationAt (d : List ℕ) (p l : ℕ) : Type 0 where
  pub stage : location_stage d p l < stages_of d p
  pub word : location_at d p l < plan_lanes d

-- the bits that stage k gathers from `row`: each slot of level 0 with a pin gets the pin's value
abbrev pub Gathers : List ℕ → ℕ → List ℕ → List ℕ → List ℕ → ℕ → ℕ → List ℕ → Type 0
Gathers d p old new W o k row =
    (j : ℕ) → j < slots_of d → (level_at d p k j ≡ empty → ⊥) → bit_at row (entry_at (plan_lanes d) W o k j) ≡ pin_value d p old new (level_at d p k j)

-- the positions after stage k: each with a pin holds the pin's value
abbrev pub HoldsValues : List ℕ → ℕ → List ℕ → List ℕ → ℕ → List ℕ → Type 0
HoldsValues d p old new k row = (q : ℕ) → 0 < q → q < slots_of d → (slot_at d p k q ≡ empty → ⊥) → bit_at row q ≡ pin_value d p old new (slot_at d p k q)
