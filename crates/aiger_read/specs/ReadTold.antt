-- What the functions that read answer: the definitions of `aiger` in the code's types.
-- Assumes nothing.
use Rattle.std.specs.Prelude.{⊤, ◌≡◌, Some, None, Ok, Err, true, false, List, [], ℕ, ◌+◌, ◌*◌, ◌-◌, ◌^◌, ◌≤◌, leb}
use Rattle.std.proofs.Math.Option.{Option, none, some}
use Rattle.std.specs.declared.option.Option as code
use Rattle.std.specs.declared.result.Result.{Result}
use Rattle.words.specs.Answer.{Answer, nowhere, result_of}
use Rattle.words.specs.declared.refusals.Refusal.{Refusal}
use Rattle.aiger.specs.Reading.{Number, is_digit, Header, Start, Difference, whole, wrong, cut, Literal, literal, Gate, gate_read, Gates, found, gates_from, Read}
use Rattle.aiger_read.specs.declared.fields.Number.{Number as NumberRead}
use Rattle.aiger_read.specs.declared.start.Header.{Header as HeaderRead}
use Rattle.aiger_read.specs.declared.start.Start.{Start as StartRead}
use Rattle.aiger_read.specs.declared.differences.Literal.{Literal as LiteralRead}
use Rattle.aiger_read.specs.declared.differences.Gate.{Gate as GateRead}

-- a digit's number
unfoldable pub digit_of : ℕ → Option ℕ
digit_of b = elim (is_digit b) [ true ↦ some (b - 48) | false ↦ none ]

-- a number that is at most `most`
unfoldable pub field_of : ℕ → Option Number → code.Option NumberRead
field_of most none = None
field_of most (some n) = elim (leb n.value most) [ true ↦ Some (record { value = n.value; next = n.next }) | false ↦ None ]

abbrev pub header_is : Header → HeaderRead
header_is h = record { inputs = h.inputs; latches = h.latches; outputs = h.outputs; gates = h.gates }

abbrev pub start_told : Option Start → code.Option StartRead
start_told none = None
start_told (some s) = Some (record { header = header_is s.header; next = s.next })

-- a header whose outputs may have their lines in so many bytes
unfoldable pub header_told : ℕ → Option Start → code.Option StartRead
header_told long none = None
header_told long (some s) = elim (leb (2 * s.header.outputs) long) [ true ↦ start_told (some s) | false ↦ None ]

abbrev pub difference_of : Difference → Result NumberRead Refusal
difference_of (whole x at) = Ok (record { value = x; next = at })
difference_of wrong = Err (nowhere 19)
difference_of cut = Err (nowhere 20)

abbrev pub literal_told : Literal → Result LiteralRead Refusal
literal_told (literal r at) = Ok (record { literal = record { 0 = r }; next = at })
literal_told (Literal.refused n) = Err (nowhere n)

abbrev pub gate_told : Gate → Result GateRead Refusal
gate_told (gate_read a b at) = Ok (record { first = record { 0 = a }; second = record { 0 = b }; next = at })
gate_told (Gate.refused n) = Err (nowhere n)

abbrev pub gates_judged : Gates → Result ⊤ Refusal
gates_judged (found l at) = Ok tt
gates_judged (Gates.refused n) = Err (nowhere n)

-- the list that was found
abbrev pub list_in : Gates → List ℕ
list_in (found l at) = l
list_in (Gates.refused n) = []

-- what writing n gates into o words asks: all are good, and there is room
pub record GatesFillable (bs : List ℕ) (o n v at : ℕ) : Type 0 where
  pub good : gates_judged (gates_from bs n v at) ≡ Ok tt
  pub room : 3 * n ≤ o
  pub fits : v + n ≤ 2 ^ 30 + 1

abbrev pub gates_read_of : Answer Read → Result HeaderRead Refusal
gates_read_of o = result_of (λ (x : Read). header_is x.header) o
