-- A gate list as words, three a gate: pin, first fan-in, second fan-in. A last gate that is cut breaks the form at its own index.
-- Assumes nothing.
use Rattle.std.specs.Prelude.{ℕ, ◌+◌, ◌*◌, ◌/◌, Bool, ◌&&◌, List, length, nat_le, slice_index}
use Rattle.std.proofs.Math.Option.{Option}
use Rattle.words.specs.Tests.{first_not}
use Rattle.gatelist.specs.GateList.{right_over, gate_over}

abbrev pub list_pin : List ℕ → ℕ → ℕ
list_pin l g = slice_index l (3 * g)

abbrev pub list_first : List ℕ → ℕ → ℕ
list_first l g = slice_index l (3 * g + 1)

abbrev pub list_second : List ℕ → ℕ → ℕ
list_second l g = slice_index l (3 * g + 2)

-- the gates that are whole, and with them the one that is cut
abbrev pub whole_gates : List ℕ → ℕ
whole_gates l = length l / 3

abbrev pub all_gates : List ℕ → ℕ
all_gates l = (length l + 2) / 3

-- 6: a gate is right where all its three words are there and it is by its numbers; the item is the lowest gate that is not
unfoldable pub list_right : List ℕ → ℕ → Bool
list_right l g = nat_le (3 * g + 3) (length l) && right_over (list_pin l) (list_first l) (list_second l) g

unfoldable pub bad_list : List ℕ → Option ℕ
bad_list l = first_not (list_right l) (all_gates l)

-- the gate of pin x
unfoldable pub gate_in : List ℕ → ℕ → Option ℕ
gate_in l x = gate_over (list_pin l) (whole_gates l) x
