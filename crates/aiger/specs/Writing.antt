-- A gate list, written as binary AIGER: document 02, 1/13.
-- Assumes nothing.
use Rattle.std.specs.Prelude.{Bool, true, false, ◌&&◌, List, [], ◌∷◌, ◌++◌, ℕ, zero, suc, ◌+◌, ◌*◌, ◌-◌, ◌/◌, ◌%◌, ◌^◌, leb, ltb, eqb}
use Rattle.std.proofs.Math.Option.{Option, none, some}
use Rattle.words.specs.Answer.{Answer, good, refused, nowhere}
use Rattle.words.specs.Tests.{all_below}
use Rattle.text.specs.Text.{decimal, field}
use Rattle.gatelist.specs.ListWords.{list_pin, list_first, list_second, whole_gates, bad_list}

-- a difference "in seven-bit groups, least first", no more than k of them
unfoldable pub group_bytes : ℕ → ℕ → List ℕ
group_bytes zero x = []
group_bytes (suc k) x = elim (ltb x 128) [ true ↦ x ∷ [] | false ↦ (x % 128 + 128) ∷ group_bytes k (x / 128) ]

-- five hold every difference of literals
abbrev pub difference_bytes : ℕ → List ℕ
difference_bytes x = group_bytes 5 x

-- `aig `, then M, I, L, O and A
unfoldable pub header_text : ℕ → ℕ → ℕ → ℕ → ℕ → List ℕ
header_text m i l o a = (97 ∷ 105 ∷ 103 ∷ 32 ∷ []) ++ (field m ++ (field i ++ (field l ++ (field o ++ (decimal a ++ (10 ∷ []))))))

-- "each gate two differences": n gates of a list from gate g on
unfoldable pub gate_bytes : List ℕ → ℕ → List ℕ
gate_bytes l g = difference_bytes (2 * list_pin l g - list_first l g) ++ difference_bytes (list_first l g - list_second l g)

unfoldable pub gates_bytes : List ℕ → ℕ → ℕ → List ℕ
gates_bytes l zero g = []
gates_bytes l (suc n) g = gate_bytes l g ++ gates_bytes l n (g + 1)

-- "its pins have no gap"
unfoldable pub follows : List ℕ → ℕ → Bool
follows l zero = true
follows l (suc g) = eqb (list_pin l (suc g)) (list_pin l g + 1)

-- "one of that form [..] when its pins have no gap and no second fan-in is larger": 6 has nothing against it, and its pins are in range
unfoldable pub gate_writable : List ℕ → ℕ → Bool
gate_writable l g = leb (list_pin l g) (2 ^ 30) && follows l g && leb (list_second l g) (list_first l g)

abbrev pub is_none : Option ℕ → Bool
is_none none = true
is_none (some g) = false

unfoldable pub writable : List ℕ → Bool
writable l = is_none (bad_list l) && all_below (gate_writable l) (whole_gates l)

-- "I the first gate's pin less 1, or 0"
abbrev pub inputs_of : List ℕ → ℕ
inputs_of l = list_pin l 0 - 1

-- "L = O = 0", and M is I + A
unfoldable pub text_of : List ℕ → List ℕ
text_of l = header_text (inputs_of l + whole_gates l) (inputs_of l) 0 0 (whole_gates l) ++ gates_bytes l (whole_gates l) 0

-- "33 any other list to write"
unfoldable pub write_aiger : List ℕ → Answer (List ℕ)
write_aiger l = elim (writable l) [ true ↦ good (text_of l) | false ↦ refused (nowhere 33) ]
