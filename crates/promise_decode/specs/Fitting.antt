-- What the run's test of 15 asks of a part beside what its script says of itself: its block ends at word e of the words W, the two lent states have
-- s and t words.
-- Assumes nothing.
use Rattle.std.specs.Prelude.{◌≡◌, true, false, List, [], ℕ, ◌+◌, ◌%◌, ◌^◌, ◌≤◌, ◌<◌, eqb, get_or}
use Rattle.reads.specs.ReadSet.{total}
use Rattle.reads.specs.Local.{word_in, mask_in}
use Rattle.plan_record.specs.Record.{plan_lanes, locations_of}
use Rattle.plan_reads.specs.PartReads.{part_lanes}
use Rattle.run_machine.specs.Part.{end_at}

pub record Fitting (d : List ℕ) (p last state : ℕ) (W : List ℕ) (o e s t : ℕ) : Type 0 where
  pub inside : end_at (plan_lanes d) W o ≤ e
  pub mark : last ≡ elim (eqb (end_at (plan_lanes d) W o) e) [ true ↦ 1 | false ↦ 0 ]
  pub old-stores : state + locations_of d p ≤ s
  pub new-stores : state + locations_of d p ≤ t
  pub thin : (i : ℕ) → total (get_or (part_lanes (plan_lanes d) d p) i []) ≤ 32
  pub old-reads : (r i : ℕ) → (mask_in (get_or (part_lanes (plan_lanes d) d p) i []) r ≡ 0 → ⊥) → word_in (get_or (part_lanes (plan_lanes d) d p) i []) r % 2 ^ 31 < s
  pub new-reads : (r i : ℕ) → (mask_in (get_or (part_lanes (plan_lanes d) d p) i []) r ≡ 0 → ⊥) → word_in (get_or (part_lanes (plan_lanes d) d p) i []) r % 2 ^ 31 < t
