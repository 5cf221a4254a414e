-- The entries that give a pin its position, numbered, so that one number is kept for a pin: 0 none, 1 + i entry i of the input layout,
-- 1 + layout_of d + i entry i of the positions. And all entries in an order in which each wins over those before it.
-- Assumes nothing.
use Rattle.std.specs.Prelude.{◌≡◌, Bool, true, false, not, List, [], ◌∷◌, ◌++◌, ℕ, zero, suc, ◌+◌, ◌-◌, ◌^◌, ◌≤◌, ◌<◌, ltb, eqb}
use Rattle.std.proofs.Math.Option.{Option, none, some}
use Rattle.pinmap.specs.PinMap.{Entry, entry}
use Rattle.plan_record.specs.Record.{layout_of, layout_base, layout_pin, positions_of, position_pin, position_state, position_staged}
use Rattle.words.specs.Pins.{empty}
use Rattle.plan_winners.specs.declared.Planned as code
use Rattle.plan_winners.specs.Planned.{Planned, in_layout, in_positions}

abbrev pub layout_number : ℕ → ℕ
layout_number i = 1 + i

abbrev pub position_number : List ℕ → ℕ → ℕ
position_number d i = 1 + layout_of d + i

-- the number of an entry where one is found, else w
abbrev pub numbered : (ℕ → ℕ) → Option ℕ → ℕ → ℕ
numbered number none w = w
numbered number (some i) w = number i

-- the entry that wins for pin x
unfoldable pub winner : List ℕ → ℕ → ℕ
winner d x =
    numbered (position_number d) (in_positions d 0 x)
    (numbered layout_number (in_layout d x) (numbered (position_number d) (in_positions d 1 x) 0))

-- the position that entry w gives
unfoldable pub planned_by : List ℕ → ℕ → Option Planned
planned_by d zero = none
planned_by d (suc i) =
    elim (ltb i (layout_of d)) [
      | true ↦ some (record { staged = 0; place = i })
      | false ↦ some (record { staged = position_staged d (i - layout_of d); place = position_state d (i - layout_of d) })
    ]

-- a position as the code hands it over
abbrev pub position_of : code.Planned → Planned
position_of x = record { staged = x.staged; place = x.place.0 }

-- ---- the entries, each for its pin

-- entry i of a list for pin x, where it is one that takes part
unfoldable pub chosen_put : Bool → ℕ → ℕ → List Entry
chosen_put true x w = entry x w ∷ []
chosen_put false x w = []

-- those of the first n
unfoldable pub chosen_puts : (ℕ → Bool) → (ℕ → ℕ) → (ℕ → ℕ) → ℕ → List Entry
chosen_puts chosen pin number zero = []
chosen_puts chosen pin number (suc n) = chosen_puts chosen pin number n ++ chosen_put (chosen n) (pin n) (number n)

-- of the layout those that have a pin, of the positions those with mark k
abbrev pub in_use : List ℕ → ℕ → Bool
in_use d i = not (eqb (layout_pin d i) empty)

abbrev pub has_mark : List ℕ → ℕ → ℕ → Bool
has_mark d k i = eqb (position_staged d i) k

abbrev pub layout_puts : List ℕ → ℕ → List Entry
layout_puts d n = chosen_puts (in_use d) (layout_pin d) layout_number n

abbrev pub marked_puts : List ℕ → ℕ → ℕ → List Entry
marked_puts d k n = chosen_puts (has_mark d k) (position_pin d) (position_number d) n

-- staged positions, then the layout, then unstaged positions
unfoldable pub winner_puts : List ℕ → List Entry
winner_puts d = marked_puts d 1 (positions_of d) ++ (layout_puts d (layout_of d) ++ marked_puts d 0 (positions_of d))

-- ---- what is known when an entry is put

pub record ListsInRange (d : List ℕ) : Type 0 where
  pub layout : layout_of d ≤ 2 ^ 20
  pub positions : positions_of d ≤ 2 ^ 20
  pub pins : (i : ℕ) → i < positions_of d → position_pin d i ≤ 2 ^ 30

-- the layout begins at word `base`, and has entry i
pub record LayoutAt (d : List ℕ) (base i : ℕ) : Type 0 where
  pub begins : base ≡ layout_base d
  pub inside : base < 2 ^ 35
  pub within : i < 2 ^ 20

-- the positions are numbered from `first` on; entry i is there, and has a pin
pub record PositionAt (d : List ℕ) (first i : ℕ) : Type 0 where
  pub after : first ≡ 1 + layout_of d
  pub few : first ≤ 1 + 2 ^ 20
  pub within : i < 2 ^ 20
  pub pin : position_pin d i ≤ 2 ^ 30
