-- The format's own examples, as its paper prints them, and the readings of a difference that it leaves open: one list with one claim.
-- Assumes nothing.
use Rattle.std.specs.Prelude.{◌≡◌, refl, List, [], ◌∷◌, ◌++◌, ℕ, ◌^◌, ◌-◌, ◌+◌}
use Rattle.std.proofs.Math.Option.{bind}
use Rattle.words.specs.Answer.{Answer, good, refused}
use Rattle.words.specs.Tests.{first_from, all_below}
use Rattle.text.specs.Text.{decimal_in}
use Rattle.gatelist.specs.GateList.{before_over, right_over}
use Rattle.gatelist.specs.ListWords.{list_right, bad_list}
use Rattle.aiger.specs.Reading.{Difference, whole, wrong, cut, Read, difference_at, digits_from, number_in, ended_by, field_at, start_with, is_marked, fields_of, header_of, end_of, line_at, lines_from, gates_start, groups_in, difference_in, literal_of, gate_from, gates_from, read_aiger}
use Rattle.aiger.specs.Writing.{difference_bytes, group_bytes, header_text, gate_bytes, gates_bytes, follows, gate_writable, writable, text_of, write_aiger}

-- what the definitions give, and what is said
pub record AigerExample : Type 0 where
  pub got : List ℕ
  pub said : List ℕ

-- a difference: its number and the byte behind it, or the refusal's number
unfoldable pub difference_told : Difference → List ℕ
difference_told (whole x at) = x ∷ at ∷ []
difference_told wrong = 19 ∷ []
difference_told cut = 20 ∷ []

-- a number's bytes, and what they are read as
unfoldable pub coded : ℕ → List ℕ
coded x = difference_bytes x ++ difference_told (difference_at (difference_bytes x) 0)

-- a file: inputs, latches, outputs, gates and the list; or the refusal's number
unfoldable pub reading_told : Answer Read → List ℕ
reading_told (good x) = x.header.inputs ∷ x.header.latches ∷ x.header.outputs ∷ x.header.gates ∷ x.list
reading_told (refused q) = q.number ∷ []

-- a text, or the refusal's number
unfoldable pub writing_told : Answer (List ℕ) → List ℕ
writing_told (good t) = t
writing_told (refused q) = q.number ∷ []

-- `aig 5 2 0 2 3`, `10`, `6`, the gates, and a symbol of those that follow: `i0 x`
unfoldable pub half_adder : List ℕ → List ℕ
half_adder behind =
    (97 ∷ 105 ∷ 103 ∷ 32 ∷ 53 ∷ 32 ∷ 50 ∷ 32 ∷ 48 ∷ 32 ∷ 50 ∷ 32 ∷ 51 ∷ 10 ∷ []) ++ ((49 ∷ 48 ∷ 10 ∷ 54 ∷ 10 ∷ []) ++ ((2 ∷ 2 ∷ 3 ∷ 2 ∷ 1 ∷ []) ++ behind))

unfoldable pub adder_gates : List ℕ
adder_gates = 3 ∷ 4 ∷ 2 ∷ 4 ∷ 5 ∷ 3 ∷ 5 ∷ 9 ∷ 7 ∷ []

-- `aig 0 0 0 0 0`
unfoldable pub empty_file : List ℕ
empty_file = 97 ∷ 105 ∷ 103 ∷ 32 ∷ 48 ∷ 32 ∷ 48 ∷ 32 ∷ 48 ∷ 32 ∷ 48 ∷ 32 ∷ 48 ∷ 10 ∷ []

unfoldable pub examples : List AigerExample
examples =
    record { got = coded 0; said = 0 ∷ 0 ∷ 1 ∷ [] }
    ∷ record { got = coded 1; said = 1 ∷ 1 ∷ 1 ∷ [] }
    ∷ record { got = coded 127; said = 0x7f ∷ 127 ∷ 1 ∷ [] }
    ∷ record { got = coded 128; said = 0x80 ∷ 0x01 ∷ 128 ∷ 2 ∷ [] }
    ∷ record { got = coded 258; said = 0x82 ∷ 0x02 ∷ 258 ∷ 2 ∷ [] }
    ∷ record { got = coded 16383; said = 0xff ∷ 0x7f ∷ 16383 ∷ 2 ∷ [] }
    ∷ record { got = coded 16387; said = 0x83 ∷ 0x80 ∷ 0x01 ∷ 16387 ∷ 3 ∷ [] }
    ∷ record { got = coded (2 ^ 28 - 1); said = 0xff ∷ 0xff ∷ 0xff ∷ 0x7f ∷ 268435455 ∷ 4 ∷ [] }
    ∷ record { got = coded (2 ^ 28 + 7); said = 0x87 ∷ 0x80 ∷ 0x80 ∷ 0x80 ∷ 0x01 ∷ 268435463 ∷ 5 ∷ [] }
    -- the half adder, read and written: L = O = 0 then
    ∷ record { got = reading_told (read_aiger (half_adder (2 ∷ 105 ∷ 48 ∷ 32 ∷ 120 ∷ 10 ∷ []))); said = 2 ∷ 0 ∷ 2 ∷ 3 ∷ adder_gates }
    ∷ record {
      got = writing_told (write_aiger adder_gates);
      said = (97 ∷ 105 ∷ 103 ∷ 32 ∷ 53 ∷ 32 ∷ 50 ∷ 32 ∷ 48 ∷ 32 ∷ 48 ∷ 32 ∷ 51 ∷ 10 ∷ []) ++ (2 ∷ 2 ∷ 3 ∷ 2 ∷ 1 ∷ 2 ∷ []);
    }
    -- the empty file
    ∷ record { got = reading_told (read_aiger empty_file); said = 0 ∷ 0 ∷ 0 ∷ 0 ∷ [] }
    ∷ record { got = writing_told (write_aiger []); said = empty_file }
    -- no last byte: 20; not shortest: 19; a fifth byte of 128, cut there or not: 19; four of them and no more: 20; out of range: 19
    ∷ record { got = reading_told (read_aiger (half_adder [])); said = 20 ∷ [] }
    ∷ record { got = reading_told (read_aiger (half_adder (0x82 ∷ 0 ∷ []))); said = 19 ∷ [] }
    ∷ record { got = reading_told (read_aiger (half_adder (0x80 ∷ 0x80 ∷ 0x80 ∷ 0x80 ∷ 0x80 ∷ []))); said = 19 ∷ [] }
    ∷ record { got = reading_told (read_aiger (half_adder (0xff ∷ 0xff ∷ 0xff ∷ 0xff ∷ []))); said = 20 ∷ [] }
    ∷ record { got = reading_told (read_aiger (half_adder (10 ∷ []))); said = 19 ∷ [] }
    -- an early end, of a line and of the header: 18; a gap: 33
    ∷ record { got = reading_told (read_aiger (97 ∷ 105 ∷ 103 ∷ 32 ∷ 48 ∷ 32 ∷ 48 ∷ 32 ∷ 48 ∷ 32 ∷ 49 ∷ 32 ∷ 48 ∷ 10 ∷ 48 ∷ [])); said = 18 ∷ [] }
    ∷ record { got = reading_told (read_aiger []); said = 18 ∷ [] }
    ∷ record { got = writing_told (write_aiger (3 ∷ 4 ∷ 2 ∷ 5 ∷ 9 ∷ 7 ∷ [])); said = 33 ∷ [] }
    -- a second fan-in that is larger: 33; an equal one is not
    ∷ record { got = writing_told (write_aiger (2 ∷ 1 ∷ 3 ∷ [])); said = 33 ∷ [] }
    ∷ record { got = writing_told (write_aiger (2 ∷ 3 ∷ 3 ∷ [])); said = 97 ∷ 105 ∷ 103 ∷ 32 ∷ 50 ∷ 32 ∷ 49 ∷ 32 ∷ 48 ∷ 32 ∷ 48 ∷ 32 ∷ 49 ∷ 10 ∷ 1 ∷ 0 ∷ [] }
    -- `aig 3 1 1 0 1` and the line `6`: the gate's variable comes behind the input and the latch. Two literals on that line: 18
    ∷ record { got = reading_told (read_aiger (97 ∷ 105 ∷ 103 ∷ 32 ∷ 51 ∷ 32 ∷ 49 ∷ 32 ∷ 49 ∷ 32 ∷ 48 ∷ 32 ∷ 49 ∷ 10 ∷ 54 ∷ 10 ∷ 1 ∷ 5 ∷ [])); said = 1 ∷ 1 ∷ 0 ∷ 1 ∷ 3 ∷ 5 ∷ 0 ∷ [] }
    ∷ record { got = reading_told (read_aiger (97 ∷ 105 ∷ 103 ∷ 32 ∷ 51 ∷ 32 ∷ 49 ∷ 32 ∷ 49 ∷ 32 ∷ 48 ∷ 32 ∷ 49 ∷ 10 ∷ 54 ∷ 32 ∷ 48 ∷ 10 ∷ 1 ∷ 5 ∷ [])); said = 18 ∷ [] }
    -- a gate that would be its own fan-in: 19
    ∷ record { got = reading_told (read_aiger (97 ∷ 105 ∷ 103 ∷ 32 ∷ 49 ∷ 32 ∷ 48 ∷ 32 ∷ 48 ∷ 32 ∷ 48 ∷ 32 ∷ 49 ∷ 10 ∷ 0 ∷ 0 ∷ [])); said = 19 ∷ [] }
    -- `aig 1073741825 1073741825 0 0 0`, one variable too many; M is not the sum; a leading zero; a blank behind A: 18
    ∷ record { got = reading_told (read_aiger (97 ∷ 105 ∷ 103 ∷ 32 ∷ 49 ∷ 48 ∷ 55 ∷ 51 ∷ 55 ∷ 52 ∷ 49 ∷ 56 ∷ 50 ∷ 53 ∷ 32 ∷ 49 ∷ 48 ∷ 55 ∷ 51 ∷ 55 ∷ 52 ∷ 49 ∷ 56 ∷ 50 ∷ 53 ∷ 32 ∷ 48 ∷ 32 ∷ 48 ∷ 32 ∷ 48 ∷ 10 ∷ [])); said = 18 ∷ [] }
    ∷ record { got = reading_told (read_aiger (97 ∷ 105 ∷ 103 ∷ 32 ∷ 50 ∷ 32 ∷ 49 ∷ 32 ∷ 48 ∷ 32 ∷ 48 ∷ 32 ∷ 48 ∷ 10 ∷ [])); said = 18 ∷ [] }
    ∷ record { got = reading_told (read_aiger (97 ∷ 105 ∷ 103 ∷ 32 ∷ 48 ∷ 48 ∷ 32 ∷ 48 ∷ 32 ∷ 48 ∷ 32 ∷ 48 ∷ 32 ∷ 48 ∷ 10 ∷ [])); said = 18 ∷ [] }
    ∷ record { got = reading_told (read_aiger (97 ∷ 105 ∷ 103 ∷ 32 ∷ 48 ∷ 32 ∷ 48 ∷ 32 ∷ 48 ∷ 32 ∷ 48 ∷ 32 ∷ 48 ∷ 32 ∷ 10 ∷ [])); said = 18 ∷ [] }
    ∷ []

unfoldable pub aiger_given : List AigerExample → List (List ℕ)
aiger_given [] = []
aiger_given (e ∷ es) = e.got ∷ aiger_given es

unfoldable pub wanted : List AigerExample → List (List ℕ)
wanted [] = []
wanted (e ∷ es) = e.said ∷ wanted es

pub examples_right : aiger_given examples ≡ wanted examples
unfolding difference_told coded reading_told writing_told half_adder adder_gates empty_file examples aiger_given wanted bind first_from all_below decimal_in before_over right_over list_right bad_list
    digits_from number_in ended_by field_at start_with is_marked fields_of header_of end_of line_at lines_from gates_start groups_in difference_in literal_of gate_from gates_from read_aiger
    group_bytes header_text gate_bytes gates_bytes follows gate_writable writable text_of write_aiger
examples_right = refl
