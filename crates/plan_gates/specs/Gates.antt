-- The gate list: refusal 6, finding a gate by its pin, and the value of a pin. Document 01, table and "The run".
-- Assumes nothing.
use Rattle.std.specs.Prelude.{ℕ, zero, suc, ◌/◌, ◌%◌, min, Bool, List}
use Rattle.std.proofs.Math.Option.{Option, none, some}
use Rattle.std.specs.Int.Bits.{differ}
use Rattle.plan_record.specs.Record.{gates_of, gate_pin, gate_first, gate_second}
use Rattle.gatelist.specs.GateList.{right_over, bad_over, gate_over}

-- refusal 6 and the gate of a pin, as `gatelist` has them of any gate list: here its gates are those of a plan record
unfoldable pub gate_right : List ℕ → ℕ → Bool
gate_right d g = right_over (gate_pin d) (gate_first d) (gate_second d) g

unfoldable pub bad_gate : List ℕ → Option ℕ
bad_gate d = bad_over (gate_pin d) (gate_first d) (gate_second d) (gates_of d)

-- the gate whose pin is x
unfoldable pub gate_of : List ℕ → ℕ → Option ℕ
gate_of d x = gate_over (gate_pin d) (gates_of d) x

-- "the AND of its fan-ins' values, inversions applied": r gives the value of a pin
unfoldable pub gate_bit : List ℕ → ℕ → (ℕ → ℕ) → ℕ
gate_bit d g r = min (differ (r (gate_first d g / 2)) (gate_first d g % 2)) (differ (r (gate_second d g / 2)) (gate_second d g % 2))

-- "its state bit if the part reads it in stage 0; else, for a gate, the AND ..; else 0": inp gives the state bits of the pins that are read
unfoldable pub pin_bit : List ℕ → Option ℕ → Option ℕ → (ℕ → ℕ) → ℕ
pin_bit d (some v) o r = v
pin_bit d none none r = 0
pin_bit d none (some g) r = gate_bit d g r

-- f calls deep at most; fan-in pins are smaller, so that the pin and one is enough
unfoldable pub value_in : List ℕ → (ℕ → Option ℕ) → ℕ → ℕ → ℕ
value_in d inp zero x = 0
value_in d inp (suc f) x = pin_bit d (inp x) (gate_of d x) (λ y. value_in d inp f y)

unfoldable pub value : List ℕ → (ℕ → Option ℕ) → ℕ → ℕ
value d inp x = value_in d inp (suc x) x
