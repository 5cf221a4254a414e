-- What refusals 15 and 16 leave of a run, and every turn keeps: facts that the code can ask for.
-- n is the number of lanes, W are the words; the states have s and t words.
-- Assumes nothing.
use Rattle.std.specs.Prelude.{◌≡◌, true, List, ℕ, ◌+◌, ◌*◌, ◌-◌, ◌<◌, ◌≤◌, length, get_or}
use Rattle.run_machine.specs.Part.{stages_at}
use Rattle.run_machine.specs.Turn.{to_stage, going, Block}
use Rattle.run_machine.specs.Room.{block_room}
use Rattle.run_machine.specs.Run.{parts_form, block_form}
use Rattle.run_machine.specs.Well.{Lanes}
use Rattle.run.specs.States.{room_of, room_block}

-- parts in form from word o to word e
pub record Parts (n : ℕ) (W : List ℕ) (s t e o : ℕ) : Type 0 where
  pub lanes : Lanes n
  pub f : ℕ
  pub form : parts_form n W s t e f o ≡ true

-- the same to the end of their block
pub record PartsFrom (n : ℕ) (W : List ℕ) (o : ℕ) : Type 0 where
  pub s : ℕ
  pub t : ℕ
  pub e : ℕ
  pub within : e ≤ length W
  pub parts : Parts n W s t e o

-- a block of words lo .. hi - 1: what is left of it is in form
pub record LeftInForm (n : ℕ) (W : List ℕ) (s t lo hi : ℕ) (b : Block) : Type 0 where
  pub order : lo ≤ hi
  pub within : hi ≤ length W
  pub from : going b.phase ≡ true → lo ≤ b.part
  pub parts : going b.phase ≡ true → Parts n W s t hi b.part
  pub stage : b.phase ≡ to_stage → b.stage < stages_at W b.part
  pub few : b.stage ≤ 255

-- the same of the block in room r
pub record RoomLeftInForm (n : ℕ) (W : List ℕ) (s t : ℕ) (r : List ℕ) : Type 0 where
  pub long : length r ≡ block_room
  pub lo : ℕ
  pub hi : ℕ
  pub good : LeftInForm n W s t lo hi (room_block n W r)

-- ---- all blocks

-- room for each, and each of them good
pub record AllLeftInForm (n : ℕ) (W starts : List ℕ) (s t : ℕ) (room : List ℕ) : Type 0 where
  pub wide : block_room * (length starts - 1) ≤ length room
  pub each : (b : ℕ) → b < length starts - 1 → LeftInForm n W s t (get_or starts b 0) (get_or starts (b + 1) 0) (room_block n W (room_of room b))

-- "turn names no block" is refused
abbrev pub TurnsNamed : List ℕ → List ℕ → Type 0
TurnsNamed starts turns = (i : ℕ) → i < length turns → get_or turns i 0 < length starts - 1

-- before the first turn
pub record RunAccepted (n : ℕ) (W starts turns : List ℕ) (s t : ℕ) (room : List ℕ) : Type 0 where
  pub lanes : Lanes n
  pub wide : block_room * (length starts - 1) ≤ length room
  pub blocks : (b : ℕ) → b < length starts - 1 → block_form n W s t (get_or starts b 0) (get_or starts (b + 1) 0) ≡ true
  pub named : TurnsNamed starts turns

-- where m blocks begin
pub record Beginnings (W starts : List ℕ) (m : ℕ) (room : List ℕ) : Type 0 where
  pub count : m ≤ length starts
  pub wide : block_room * m ≤ length room
  pub inside : (b : ℕ) → b < m → get_or starts b 0 < length W
