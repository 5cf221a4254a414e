-- The state bit of a pin that a part reads in stage 0: what the value of a pin begins with. Document 01, "The run".
-- Assumes nothing.
use Rattle.std.specs.Prelude.{true, false, ◌&&◌, List, ℕ, ltb, eqb}
use Rattle.std.proofs.Math.Option.{Option, none, some}
use Rattle.words.specs.Bit.{bit_at}
use Rattle.plan_record.specs.Record.{parts_of}
use Rattle.plan_slots.specs.Slots.{reads_pin}
use Rattle.plan_winners.specs.Planned.{Planned, planned}

-- the bit at a planned position: a staged one is in the new state
unfoldable pub planned_bit : List ℕ → List ℕ → Option Planned → Option ℕ
planned_bit old new none = none
planned_bit old new (some y) = elim (eqb y.staged 0) [ true ↦ some (bit_at old y.place) | false ↦ some (bit_at new y.place) ]

-- the state bit of pin x, if part p reads it
unfoldable pub input : List ℕ → ℕ → List ℕ → List ℕ → ℕ → Option ℕ
input d p old new x = elim (ltb p (parts_of d) && reads_pin d p x) [ true ↦ planned_bit old new (planned d x) | false ↦ none ]
