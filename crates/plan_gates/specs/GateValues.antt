-- What the functions over a gate list answer and ask, and the values of all gates. What is known of the pins that a part reads is a table of
-- crate pinmap: each pin with its state bit.
-- Assumes nothing.
use Rattle.std.specs.Prelude.{◌≡◌, ℕ, zero, suc, ◌+◌, ◌-◌, ◌*◌, ◌^◌, ◌<◌, ◌≤◌, true, false, List, length, nat_lt}
use Rattle.std.proofs.Math.Option.{Option, none, some}
use Rattle.words.specs.Bit.{bit_at, set_bit, word_of}
use Rattle.words.specs.Section.{list_of}
use Rattle.pinmap.specs.PinMap.{look}
use Rattle.plan_record.specs.Record.{gates_of, gate_pin}
use Rattle.plan_gates.specs.Gates.{bad_gate, value}

-- what the value of a pin asks: refusal 6 is excluded, and what is known of a pin is a bit
pub record Given (d known : List ℕ) : Type 0 where
  pub gates : bad_gate d ≡ none
  pub bits : (x v : ℕ) → look known x ≡ some v → v < 2

-- the value of gate g's pin, 0 past the last gate
unfoldable pub gate_value : List ℕ → (ℕ → Option ℕ) → ℕ → ℕ
gate_value d inp g = elim (nat_lt g (gates_of d)) [ true ↦ value d inp (gate_pin d g) | false ↦ 0 ]

-- n words, bit g of which is the value of gate g's pin
unfoldable pub gate_words : List ℕ → (ℕ → Option ℕ) → ℕ → List ℕ
gate_words d inp n = list_of (λ w. word_of (λ k. gate_value d inp (32 * w + k)) 32) n

-- a list of words with the bit at position p set, where v is not 0
unfoldable pub store_bit : List ℕ → ℕ → ℕ → List ℕ
store_bit l p zero = l
store_bit l p (suc v) = set_bit l p

-- a pin that a table of pins can be asked for
abbrev pub AskablePin : ℕ → Type 0
AskablePin x = x < 2 ^ 32 - 1

-- there is a bit for each gate, and the first n gates have their values there
pub record ValuedBelow (d known bits : List ℕ) (n : ℕ) : Type 0 where
  pub room : gates_of d ≤ 32 * length bits
  pub held : (g : ℕ) → g < n → bit_at bits g ≡ gate_value d (look known) g

-- what it asks to store gate g's value: the gates before it have theirs
pub record GateReady (d known bits : List ℕ) (g : ℕ) : Type 0 where
  pub given : Given d known
  pub inside : g < gates_of d
  pub askable : AskablePin (gate_pin d g)
  pub below : ValuedBelow d known bits g

-- what the values of all gates ask
pub record ValuesFillable (d known bits : List ℕ) : Type 0 where
  pub given : Given d known
  pub room : gates_of d ≤ 32 * length bits
  pub askable : (g : ℕ) → g < gates_of d → AskablePin (gate_pin d g)
