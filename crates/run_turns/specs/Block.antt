-- A block as its small state and its room hold it, and the room after a turn.
-- Assumes nothing.
use Rattle.std.specs.Prelude.{◌≡◌, Bool, true, false, List, [], ◌++◌, ℕ, ◌<◌, take, drop, replicate}
use Rattle.std.proofs.lemmas.List.Edits.{sets}
use Rattle.run_machine.specs.Part.{stages_at, normal_at}
use Rattle.run_machine.specs.Turn.{Phase, to_read, to_stage, to_store, finished, going, Block, read_row, stage_row, captured}
use Rattle.run_machine.specs.Room.{captured_from}
use Rattle.run_machine.specs.Well.{PartWell}
use Rattle.run_stage.specs.Gather.{gathered_row}

-- what the room holds counts from the read turn to the store turn
unfoldable pub holds : Phase → Bool
holds to_read = false
holds to_stage = true
holds to_store = true
holds finished = false

unfoldable pub held : Phase → List ℕ → List ℕ
held f l = elim (holds f) [ true ↦ l | false ↦ [] ]

-- the block of a state (part, phase, stage) and its room
unfoldable pub state_block : ℕ → List ℕ → (part : ℕ) → Phase → (stage : ℕ) → List ℕ → Block
state_block n W part phase stage room =
    record { part = part; phase = phase; stage = stage; row = held phase (take n room); caps = held phase (take (normal_at W part) (drop captured_from room)) }

-- ---- the room after the turns of a part that begins at word o

unfoldable pub room_read : ℕ → List ℕ → ℕ → List ℕ → List ℕ → List ℕ → List ℕ
room_read n W o old new room = sets (sets room 0 (read_row n W o old new)) captured_from (replicate 256 0)

unfoldable pub room_staged : ℕ → ℕ → List ℕ → ℕ → ℕ → List ℕ → List ℕ
room_staged n H W o k room =
    sets (sets room 0 (stage_row n H W o k (take n room) ++ gathered_row n W o k (take n room))) captured_from
    (captured n W o k (stage_row n H W o k (take n room)) (drop captured_from room))

-- by the phase that the turn is in
unfoldable pub room_turned : ℕ → ℕ → List ℕ → ℕ → ℕ → List ℕ → List ℕ → Phase → List ℕ → List ℕ
room_turned n H W o k old new to_read room = room_read n W o old new room
room_turned n H W o k old new to_stage room = room_staged n H W o k room
room_turned n H W o k old new to_store room = room
room_turned n H W o k old new finished room = room

-- ---- what a turn asks of the block's state, where the states have s and t words

pub record BlockWell (n : ℕ) (W : List ℕ) (s t part : ℕ) (phase : Phase) (stage : ℕ) : Type 0 where
  pub well : going phase ≡ true → PartWell n W s t part
  pub within : phase ≡ to_stage → stage < stages_at W part
