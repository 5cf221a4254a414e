-- What a plan's working room holds after the checks.
-- Assumes nothing.
use Rattle.std.specs.Prelude.{◌≡◌, true, false, List, ℕ, ◌≤◌, ◌<◌, leb, length, take, replicate}
use Rattle.std.proofs.Math.Option.{none, some}
use Rattle.reads.specs.Search.{longest}
use Rattle.plan_record.specs.Record.{plan_lanes, parts_of}
use Rattle.plan_record.specs.Form.{plan_room_words}
use Rattle.plan_rows.specs.Columns as col
use Rattle.plan_rows.specs.Rows.{row_base, cell_at}
use Rattle.plan_blocks.specs.PartTable.{Tabled}
use Rattle.plan_blocks.specs.TableFill.{tabled_room}
use Rattle.plan_reads.specs.PartReads.{part_lanes, part_size}
use Rattle.plan_reads.specs.PartReadAnswers.{read_rows}
use Rattle.plan_refusals.specs.Refusals.{plan_refusal}

-- what the room holds once a plan is accepted
pub record PlanReady (d room : List ℕ) : Type 0 where
  pub wide : row_base (parts_of d) ≤ length room
  pub tabled : Tabled d room
  pub rounds : (p : ℕ) → p < parts_of d → cell_at room p col.rounds ≡ longest (part_lanes (plan_lanes d) d p)
  pub sizes : (p : ℕ) → p < parts_of d → cell_at room p col.piece_size ≡ part_size (plan_lanes d) d p
  pub front : take 65536 room ≡ replicate 65536 0

-- which words these are, of a room of n words: the part table with the rounds and the piece sizes, and zeros
unfoldable pub ready_room : List ℕ → ℕ → List ℕ
ready_room d n = read_rows d (tabled_room d (replicate n 0)) (parts_of d)

-- the room after the checks: one that is too short holds what it held, that of a refused plan zeros
unfoldable pub room_left : List ℕ → List ℕ → List ℕ
room_left d room =
    elim (leb (plan_room_words d) (length room)) [
      | false ↦ room
      | true ↦ elim (plan_refusal d) [ some x ↦ replicate (length room) 0 | none ↦ ready_room d (length room) ]
    ]

-- a room that is wide enough for the plan, and clear
pub record Cleared (d room : List ℕ) : Type 0 where
  pub enough : plan_room_words d ≤ length room
  pub zeros : room ≡ replicate (length room) 0
