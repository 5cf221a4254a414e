-- What the writers of the assembled script ask for: an accepted plan with its part table, and room for the words.
-- Assumes nothing.
use Rattle.std.specs.Prelude.{◌≡◌, List, ◌∷◌, ℕ, ◌+◌, ◌-◌, ◌≤◌, ◌<◌, length, replicate}
use Rattle.std.proofs.Math.Option.{none}
use Rattle.plan_record.specs.Record.{plan_lanes, blocks_of, majors_of, parts_of, parts_before}
use Rattle.plan_rows.specs.Columns as col
use Rattle.plan_rows.specs.Rows.{cell_at}
use Rattle.script.specs.Script.{part_script}
use Rattle.plan_refusals.specs.Refusals.{plan_refusal}
use Rattle.plan_checks.specs.CheckedRoom.{PlanReady}
use Rattle.script_assembly.specs.Assembly.{block_words, stage_words, major_words, major_starts, script_words, script_starts}
use Rattle.script_assembly.specs.WrittenSoFar.{length_of, parts_in, first_rank}
use Rattle.script_layout.specs.declared.placed.Next.{Next}

-- an accepted plan, whose part table stands in the room
pub record AcceptedTabled (d room : List ℕ) : Type 0 where
  pub accepted : plan_refusal d ≡ none
  pub ready : PlanReady d room

-- the script of part p, its starts as its row says
abbrev pub row_script : List ℕ → List ℕ → ℕ → ℕ → List ℕ
row_script d room p last = part_script (plan_lanes d) d p last (cell_at room p col.state_start) (cell_at room p col.sram_start)

-- part p, and room for its script from word `at` on, in a list of m words
pub record PartRoom (d room : List ℕ) (p at m : ℕ) : Type 0 where
  pub sound : AcceptedTabled d room
  pub part : p < parts_of d
  pub fits : at + length_of (plan_lanes d) d p ≤ m

-- "an empty block is 256 words, zero but word 1 = 1": a word a lane
unfoldable pub empty_words : ℕ → List ℕ
empty_words n = 0 ∷ 1 ∷ replicate (n - 2) 0

-- block b of major stage s, whose first rank is `from`
pub record BlockAt (d room : List ℕ) (s b from : ℕ) : Type 0 where
  pub sound : AcceptedTabled d room
  pub stage : s < majors_of d
  pub block : b < blocks_of d
  pub first : from ≡ first_rank d s b

-- and room for its words from word `at` on
pub record BlockRoom (d room : List ℕ) (s b from at m : ℕ) : Type 0 where
  pub place : BlockAt d room s b from
  pub fits : at + length (block_words (plan_lanes d) d s (parts_in d s b)) ≤ m

-- the next rank and the next word, when the first s major stages are written
pub record NextOf (d : List ℕ) (s : ℕ) (x : Next) : Type 0 where
  pub rank : x.rank ≡ parts_before d s
  pub at : x.at ≡ length (major_words (plan_lanes d) d s)

-- major stage s, whose first start is number `first` of m starts, and room for its words, of w words
pub record StageRoom (d room : List ℕ) (s first : ℕ) (x : Next) (m w : ℕ) : Type 0 where
  pub sound : AcceptedTabled d room
  pub stage : s < majors_of d
  pub next : NextOf d s x
  pub first_is : first ≡ length (major_starts (plan_lanes d) d s)
  pub starts : first + blocks_of d ≤ m
  pub fits : x.at + length (stage_words (plan_lanes d) d s (blocks_of d)) ≤ w

-- room for the whole
pub record PlanRoom (d room : List ℕ) (m w : ℕ) : Type 0 where
  pub sound : AcceptedTabled d room
  pub starts : length (script_starts (plan_lanes d) d) ≤ m
  pub words : length (script_words (plan_lanes d) d) ≤ w
