-- What the tables of pins hold: the positions of a stage, and the pins that a part reads. A table is one of crate pinmap, cleared, then filled in
-- the order of the slots, so that the highest of several wins.
-- Assumes nothing.
use Rattle.std.specs.Prelude.{◌≡◌, Bool, true, false, List, [], ◌∷◌, ◌++◌, ℕ, zero, suc, ◌+◌, ◌-◌, ◌^◌, ◌≤◌, ◌<◌, eqb, length, get_or, replicate}
use Rattle.std.proofs.Math.Option.{Option, none, some}
use Rattle.pinmap.specs.PinMap.{Entry, entry, after_puts}
use Rattle.plan_record.specs.Record.{slots_of, slot_at, level_at}
use Rattle.words.specs.Pins.{empty}
use Rattle.words.specs.Tests.{some_below}

-- the entry of a slot with pin x: of an empty slot none
unfoldable pub held_at : ℕ → ℕ → List Entry
held_at x v = elim (eqb x empty) [ true ↦ [] | false ↦ entry x v ∷ [] ]

-- those of n slots, the first one first: `pin i` is the pin of slot i, `value i` the number put for it
unfoldable pub held_below : (ℕ → ℕ) → (ℕ → ℕ) → ℕ → List Entry
held_below pin value zero = []
held_below pin value (suc n) = held_below pin value n ++ held_at (pin n) (value n)

-- positions 1, 2, .. of stage s, each with its number
unfoldable pub position_puts : List ℕ → ℕ → ℕ → List Entry
position_puts d p s = held_below (λ i. slot_at d p s (i + 1)) (λ i. i + 1) (slots_of d - 1)

-- the slots of level 0 of stage 0
unfoldable pub read_puts : List ℕ → ℕ → List Entry
read_puts d p = held_below (level_at d p 0) (λ j. 0) (slots_of d)

-- pin n, where it is not empty and none of those before it; and the pins of n slots, each once, in the order in which they first come
unfoldable pub new_pin : (ℕ → ℕ) → ℕ → List ℕ
new_pin pin n =
    elim (eqb (pin n) empty) [ true ↦ [] | false ↦ elim (some_below (λ i. eqb (pin i) (pin n)) n) [ true ↦ [] | false ↦ pin n ∷ [] ] ]

unfoldable pub first_pins : (ℕ → ℕ) → ℕ → List ℕ
first_pins pin zero = []
first_pins pin (suc n) = first_pins pin n ++ new_pin pin n

-- those of the slots of level 0 of stage 0
abbrev pub read_pin : List ℕ → ℕ → ℕ → ℕ
read_pin d p j = level_at d p 0 j

unfoldable pub read_pins : List ℕ → ℕ → List ℕ
read_pins d p = first_pins (read_pin d p) (slots_of d)

-- each can be looked for in a table
abbrev pub AllPins : List ℕ → Type 0
AllPins pins = (i : ℕ) → i < length pins → get_or pins i 0 < 2 ^ 32 - 1

-- a table of n words that holds them, and a lent table that does
abbrev pub filled : ℕ → List Entry → List ℕ
filled n puts = after_puts (replicate n 0) puts

pub record FilledWith (puts : List Entry) (table : List ℕ) : Type 0 where
  pub wide : 32768 ≤ length table
  pub is : table ≡ filled (length table) puts

-- what is found for a pin that some slot has with number v, or none has; and for a pin whose highest position is q, 0 for none
abbrev pub found_if : Bool → ℕ → Option ℕ
found_if true v = some v
found_if false v = none

abbrev pub found_at : ℕ → Option ℕ
found_at zero = none
found_at (suc q) = some (suc q)
