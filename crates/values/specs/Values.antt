-- The value of a pin by the gates, for any arguments: document 01, "The run" ("The value of a pin by the gates") and "Numbered refusals": 32, 29
-- (10/13 of document 02), 5, 6, then 14. The lent result has one bit a gate.
-- Assumes nothing.
use Rattle.std.specs.Prelude.{◌≡◌, true, false, List, ℕ, ◌+◌, ◌/◌, leb, eqb, length, replicate}
use Rattle.std.proofs.Math.Option.{Option, none, some}
use Rattle.std.proofs.lemmas.List.Edits.{sets}
use Rattle.words.specs.Edition.{known}
use Rattle.plan_record.specs.Record.{gates_of, edition_of}
use Rattle.words.specs.Pins.{empty}
use Rattle.std.specs.declared.result.Result.{Result}
use Rattle.words.specs.declared.refusals.Refusal.{Refusal}
use Rattle.words.specs.Answer.{Answer, good, refused, at_item, nowhere, result_of}
use Rattle.plan_record.specs.Form.{plan_room_words, plan_form}
use Rattle.plan_gates.specs.Gates.{bad_gate, value}
use Rattle.plan_gates.specs.GateValues.{gate_words}
use Rattle.plan_positions.specs.Input.{input}
use Rattle.plan_known.specs.Known.{Clear}

-- a pin's value, and the words with every gate's
pub record Bits : Type 0 where
  pub own : ℕ
  pub gates : List ℕ

-- the value of pin x in part p, between state `old` and state `new`. The empty pin is no pin: it is neither read nor a gate's
unfoldable pub pin_value : List ℕ → ℕ → List ℕ → List ℕ → ℕ → ℕ
pin_value d p old new x = elim (eqb x empty) [ true ↦ 0 | false ↦ value d (input d p old new) x ]

-- how many words have one bit a gate
abbrev pub bit_words : List ℕ → ℕ
bit_words d = (gates_of d + 31) / 32

-- in those words: bit g % 32 of word g / 32 is the value of gate g's pin, and the bits past the last gate are 0
unfoldable pub gate_values : List ℕ → ℕ → List ℕ → List ℕ → List ℕ
gate_values d p old new = gate_words d (input d p old new) (bit_words d)

-- "14: lent result room shorter than needed": it has b words; else the values
unfoldable pub lent_bits : List ℕ → ℕ → List ℕ → List ℕ → ℕ → ℕ → Answer Bits
lent_bits d p old new b x =
    elim (leb (bit_words d) b) [ false ↦ refused (nowhere 14) | true ↦ good (record { own = pin_value d p old new x; gates = gate_values d p old new }) ]

-- 6 at its gate comes before that
unfoldable pub valued : Option ℕ → Answer Bits → Answer Bits
valued (some g) o = refused (at_item 6 g)
valued none o = o

-- and before it 5
unfoldable pub formed_answer : List ℕ → ℕ → List ℕ → List ℕ → ℕ → ℕ → Answer Bits
formed_answer d p old new b x = elim (plan_form d) [ false ↦ refused (nowhere 5) | true ↦ valued (bad_gate d) (lent_bits d p old new b x) ]

-- and before it 29, and before all 32: the lent room has r words
unfoldable pub value_answer : List ℕ → ℕ → List ℕ → List ℕ → ℕ → ℕ → ℕ → Answer Bits
value_answer d p old new r b x =
    elim (leb (plan_room_words d) r) [
      | false ↦ refused (nowhere 32)
      | true ↦ elim (known (edition_of d)) [ false ↦ refused (nowhere 29) | true ↦ formed_answer d p old new b x ]
    ]

-- the code tells the pin's value
abbrev pub valued_of : Answer Bits → Result ℕ Refusal
valued_of o = result_of (λ (x : Bits). x.own) o

-- the lent result then begins with the gates' values; what lies behind them, and all of it at a refusal, is what it held
unfoldable pub bits_after : Answer Bits → List ℕ → List ℕ
bits_after (good x) bits = sets bits 0 x.gates
bits_after (refused q) bits = bits

-- the lent room then holds zeros; one that is too short holds what it held
unfoldable pub value_room_after : List ℕ → List ℕ → List ℕ
value_room_after d room = elim (leb (plan_room_words d) (length room)) [ false ↦ room | true ↦ replicate (length room) 0 ]

-- a plan that the value of a pin is asked of
pub record ValueAsked (d room : List ℕ) : Type 0 where
  pub form : plan_form d ≡ true
  pub gates : bad_gate d ≡ none
  pub clear : Clear room
