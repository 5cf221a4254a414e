-- The table of state bits that the value of a pin begins with: each pin that a part reads and that has a planned position, with the bit there.
-- Assumes nothing.
use Rattle.std.specs.Prelude.{◌≡◌, true, false, List, [], ◌∷◌, ◌++◌, ℕ, zero, suc, ◌≤◌, ◌<◌, ltb, eqb, length, drop, replicate}
use Rattle.std.proofs.Math.Option.{Option, none, some}
use Rattle.pinmap.specs.PinMap.{Entry, entry}
use Rattle.plan_record.specs.declared.bodies.Body.{Body}
use Rattle.plan_record.specs.Record.{slots_of, parts_of, level_at}
use Rattle.words.specs.Pins.{empty}
use Rattle.plan_record.specs.Body.{BodyOf}
use Rattle.plan_winners.specs.Planned.{planned}
use Rattle.plan_positions.specs.Places.{planned_table}
use Rattle.plan_positions.specs.Input.{planned_bit}

-- the state bit of the pin of a slot: of an empty slot none
unfoldable pub held_bit : List ℕ → List ℕ → List ℕ → ℕ → Option ℕ
held_bit d old new x = elim (eqb x empty) [ true ↦ none | false ↦ planned_bit old new (planned d x) ]

-- its entry, where there is one
unfoldable pub found_put : ℕ → Option ℕ → List Entry
found_put x none = []
found_put x (some v) = entry x v ∷ []

-- those of n slots, the first one first
unfoldable pub found_below : (ℕ → ℕ) → (ℕ → Option ℕ) → ℕ → List Entry
found_below pin f zero = []
found_below pin f (suc n) = found_below pin f n ++ found_put (pin n) (f (pin n))

-- those of the first n slots of level 0 of stage 0 of part p
abbrev pub bit_puts : List ℕ → ℕ → List ℕ → List ℕ → ℕ → List Entry
bit_puts d p old new n = found_below (level_at d p 0) (held_bit d old new) n

-- a part past the plan reads nothing
unfoldable pub known_puts : List ℕ → ℕ → List ℕ → List ℕ → List Entry
known_puts d p old new = elim (ltb p (parts_of d)) [ true ↦ bit_puts d p old new (slots_of d) | false ↦ [] ]

-- ---- what is known when the table is filled: its place are the first 32768 words of the room

-- a room that is clear
pub record Clear (room : List ℕ) : Type 0 where
  pub wide : 65536 ≤ length room
  pub is : room ≡ replicate (length room) 0

-- the words after those have the pins that part p reads, each with the number of the entry that wins for it
pub record WinnersTabled (d : List ℕ) (p : ℕ) (b : Body) (room : List ℕ) : Type 0 where
  pub body : BodyOf d p b
  pub stages : 0 < b.stages
  pub wide : 65536 ≤ length room
  pub winners : drop 32768 room ≡ planned_table d p (length (drop 32768 room))
