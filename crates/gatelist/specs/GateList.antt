-- A gate list kept in any form: three functions give the pin, the first and the second fan-in (inverted pin numbers) of gate g, and a count says how many gates
-- there are. Document 01, refusal 6.
-- Assumes nothing.
use Rattle.std.specs.Prelude.{ℕ, zero, suc, ◌/◌, Bool, not, ◌&&◌, ◌==◌, nat_lt}
use Rattle.std.proofs.Math.Option.{Option}
use Rattle.words.specs.Tests.{first_not}

-- the pin of the gate before, 0 before the first: so a first pin 0 is not above it
unfoldable pub before_over : (ℕ → ℕ) → ℕ → ℕ
before_over pin zero = 0
before_over pin (suc g) = pin g

-- 6: "gate list not strictly ascending, pin 0, or a fan-in pin not below its gate"
unfoldable pub right_over : (pin first second : ℕ → ℕ) → ℕ → Bool
right_over pin first second g = nat_lt (before_over pin g) (pin g) && nat_lt (first g / 2) (pin g) && nat_lt (second g / 2) (pin g)

-- the lowest of n gates that is not right
unfoldable pub bad_over : (pin first second : ℕ → ℕ) → ℕ → Option ℕ
bad_over pin first second n = first_not (right_over pin first second) n

-- the gate of pin x among n
unfoldable pub gate_over : (ℕ → ℕ) → ℕ → ℕ → Option ℕ
gate_over pin n x = first_not (λ g. not (pin g == x)) n
