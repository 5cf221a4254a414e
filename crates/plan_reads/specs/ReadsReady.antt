-- What is known when a part's reads are gathered, searched and numbered.
-- Assumes nothing.
use Rattle.std.specs.Prelude.{◌≡◌, true, List, map, ℕ, ◌-◌, ◌%◌, ◌^◌, ◌≤◌, ◌<◌, length, get_or, take, replicate}
use Rattle.std.proofs.Math.Option.{Option, none, some}
use Rattle.reads.specs.ReadSet.{pairs_of, broken}
use Rattle.pinmap.specs.PinMap.{look}
use Rattle.plan_record.specs.Record.{slots_of, parts_of, level_at}
use Rattle.words.specs.Pins.{empty}
use Rattle.plan_record.specs.Form.{plan_form}
use Rattle.plan_rows.specs.Rows.{row_base}
use Rattle.plan_positions.specs.Positions.{refusal12}
use Rattle.plan_winners.specs.Planned.{Planned, planned}
use Rattle.plan_winners.specs.Winners.{winner, planned_by}
use Rattle.plan_slots.specs.Puts.{read_pins}
use Rattle.plan_reads.specs.PartReads.{bit_number}

-- the bit of a position that may be missing
abbrev pub planned_number : Option Planned → ℕ
planned_number none = 0
planned_number (some x) = bit_number x

-- the bits of pins, and those of the pins that part p reads, each pin's once
abbrev pub bits_of : List ℕ → List ℕ → List ℕ
bits_of d pins = map (λ x. planned_number (planned d x)) pins

unfoldable pub part_bits : List ℕ → ℕ → List ℕ
part_bits d p = bits_of d (read_pins d p)

-- a bit whose word has 27 bits beside bit 31
pub record Narrow (q : ℕ) : Type 0 where
  pub small : q < 2 ^ 37
  pub place : q % 2 ^ 36 < 2 ^ 32

abbrev pub AllNarrow : List ℕ → Type 0
AllNarrow qs = (i : ℕ) → i < length qs → Narrow (get_or qs i 0)

-- entry w gives a position, staged or not
pub record EntryOf (d : List ℕ) (w : ℕ) : Type 0 where
  pub some-entry : 0 < w
  pub marked : (x : Planned) → planned_by d w ≡ some x → x.staged ≤ 1

-- the table of pins has the winner of pin x, which is an entry
pub record Won (d pins : List ℕ) (x : ℕ) : Type 0 where
  pub found : look pins x ≡ some (winner d x)
  pub some-entry : 0 < winner d x

-- so it has those of all pins that part p reads
abbrev pub AllWon : List ℕ → ℕ → List ℕ → Type 0
AllWon d p pins = (j : ℕ) → j < slots_of d → (level_at d p 0 j ≡ empty → ⊥) → Won d pins (level_at d p 0 j)

-- so it has those of all listed pins
abbrev pub ListWon : List ℕ → List ℕ → List ℕ → Type 0
ListWon d pins list = (i : ℕ) → i < length list → (get_or list i 0 < 2 ^ 32 - 1) × Won d pins (get_or list i 0)

-- room for a read set: keys, their scratch, and the set
pub record SetRoom (keys scratch set : ℕ) : Type 0 where
  pub keys-room : 8192 ≤ keys
  pub scratch-room : 8192 ≤ scratch
  pub set_room : 16384 ≤ set

-- every pin that part p reads has a planned position
abbrev pub AllPlanned : List ℕ → ℕ → Type 0
AllPlanned d p = (j : ℕ) → j < slots_of d → (level_at d p 0 j ≡ empty → ⊥) → planned d (level_at d p 0 j) ≡ none → ⊥

-- a read set as the search takes it: 8192 pairs at most, in form
pub record SetInForm (ws : List ℕ) : Type 0 where
  pub few : length ws ≤ 16384
  pub form : broken (pairs_of ws) ≡ none

-- a room that has the part table, the first words of which are clear
pub record ClearRoom (d room : List ℕ) : Type 0 where
  pub wide : row_base (parts_of d) ≤ length room
  pub clear : take 32768 room ≡ replicate 32768 0

-- a plan that was refused neither by 5 nor by 12, with such a room
pub record ReadsSearchable (d room : List ℕ) : Type 0 where
  pub form : plan_form d ≡ true
  pub planned : refusal12 d ≡ none
  pub cleared : ClearRoom d room
