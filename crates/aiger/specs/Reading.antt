-- A binary AIGER file, read: document 02, 1/13. Each definition takes the file's bytes and a byte's place, and says what stands there and which byte is next.
-- Assumes nothing.
use Rattle.std.specs.Prelude.{Bool, true, false, ◌&&◌, List, [], ◌∷◌, ℕ, zero, suc, ◌+◌, ◌*◌, ◌-◌, ◌^◌, leb, ltb, eqb, get_or, drop}
use Rattle.std.proofs.Math.Option.{Option, none, some, bind as ◌>>=◌}
use Rattle.words.specs.Answer.{Answer, nowhere}

-- ---- numbers of the header and of the lines

pub record Number : Type 0 where
  pub value : ℕ
  pub next : ℕ

abbrev pub is_digit : ℕ → Bool
is_digit b = leb 48 b && leb b 57

-- the number that x and the digits from byte `at` on make
unfoldable pub digits_from : ℕ → ℕ → List ℕ → Number
digits_from x at [] = record { value = x; next = at }
digits_from x at (b ∷ bs) = elim (is_digit b) [ true ↦ digits_from (10 * x + (b - 48)) (at + 1) bs | false ↦ record { value = x; next = at } ]

-- "Numbers have no leading zeros": a first digit 0 is all of its number
unfoldable pub number_in : ℕ → List ℕ → Option Number
number_in at [] = none
number_in at (b ∷ bs) =
    elim (is_digit b) [
      | false ↦ none
      | true ↦ elim (eqb b 48) [ true ↦ some (record { value = 0; next = at + 1 }) | false ↦ some (digits_from (b - 48) (at + 1) bs) ]
    ]

-- "blanks are single, lines end in LF": a number with the byte e right behind it
unfoldable pub ended_by : ℕ → ℕ → Number → Option Number
ended_by e b n = elim (eqb b e) [ true ↦ some (record { value = n.value; next = n.next + 1 }) | false ↦ none ]

unfoldable pub field_at : List ℕ → ℕ → ℕ → Option Number
field_at bs e at = do
  n ← number_in at (drop at bs)
  ended_by e (get_or bs n.next 0) n

-- ---- the header and the lines: 18 is "anything wrong before the gates, an early end included"

-- M is the sum of inputs, latches and gates
pub record Header : Type 0 where
  pub inputs : ℕ
  pub latches : ℕ
  pub outputs : ℕ
  pub gates : ℕ

abbrev pub last_variable : Header → ℕ
last_variable h = h.inputs + h.latches + h.gates

pub record Start : Type 0 where
  pub header : Header
  pub next : ℕ

-- "M = I + L + A at most 2^30"
unfoldable pub start_with : ℕ → Header → ℕ → Option Start
start_with m h at = elim (eqb m (last_variable h) && leb m (2 ^ 30)) [ true ↦ some (record { header = h; next = at }) | false ↦ none ]

-- "Only the five-number header is meant": `aig `, then M, I, L, O and A
unfoldable pub is_marked : List ℕ → Bool
is_marked bs = eqb (get_or bs 0 0) 97 && eqb (get_or bs 1 0) 105 && eqb (get_or bs 2 0) 103 && eqb (get_or bs 3 0) 32

unfoldable pub fields_of : List ℕ → Option Start
fields_of bs = do
  m ← field_at bs 32 4
  i ← field_at bs 32 m.next
  l ← field_at bs 32 i.next
  o ← field_at bs 32 l.next
  a ← field_at bs 10 o.next
  start_with m.value (record { inputs = i.value; latches = l.value; outputs = o.value; gates = a.value }) a.next

unfoldable pub header_of : List ℕ → Option Start
header_of bs = elim (is_marked bs) [ true ↦ fields_of bs | false ↦ none ]

-- "latch and output lines are one literal up to 2M+1 each, passed over": the byte behind a line, and behind n of them
unfoldable pub end_of : ℕ → Number → Option ℕ
end_of most x = elim (leb x.value most) [ true ↦ some x.next | false ↦ none ]

unfoldable pub line_at : List ℕ → ℕ → ℕ → Option ℕ
line_at bs most at = do
  x ← field_at bs 10 at
  end_of most x

unfoldable pub lines_from : List ℕ → ℕ → ℕ → ℕ → Option ℕ
lines_from bs most zero at = some at
lines_from bs most (suc n) at = do
  i ← line_at bs most at
  lines_from bs most n i

-- all that stands before the gates, and the gates' first byte
unfoldable pub gates_start : List ℕ → Option Start
gates_start bs = do
  s ← header_of bs
  at ← lines_from bs (2 * last_variable s.header + 1) (s.header.latches + s.header.outputs) s.next
  some (record { header = s.header; next = at })

-- ---- differences: 19 "out of range, not shortest or over five bytes", 20 "end within the gates, whichever comes first"

-- a number and the byte behind it; no difference; or one that the file's end cuts
pub data Difference : Type 0 where
  whole : ℕ → ℕ → Difference
  wrong : Difference
  cut : Difference

-- "in seven-bit groups, least first"
abbrev pub above : ℕ → Difference → Difference
above low (whole x at) = whole (low + 128 * x) at
above low wrong = wrong
above low cut = cut

-- the groups behind a first byte of 128 or more: k bytes more at most, and a last group 0 is "not shortest"
unfoldable pub groups_in : ℕ → ℕ → List ℕ → Difference
groups_in zero at bs = wrong
groups_in (suc k) at [] = cut
groups_in (suc k) at (b ∷ bs) =
    elim (ltb b 128) [
      | true ↦ elim (eqb b 0) [ true ↦ wrong | false ↦ whole b (at + 1) ]
      | false ↦ above (b - 128) (groups_in k (at + 1) bs)
    ]

unfoldable pub difference_in : ℕ → List ℕ → Difference
difference_in at [] = cut
difference_in at (b ∷ bs) = elim (ltb b 128) [ true ↦ whole b (at + 1) | false ↦ above (b - 128) (groups_in 4 (at + 1) bs) ]

abbrev pub difference_at : List ℕ → ℕ → Difference
difference_at bs at = difference_in at (drop at bs)

-- ---- gates

-- a literal and the byte behind it, or a refusal's number
pub data Literal : Type 0 where
  literal : ℕ → ℕ → Literal
  refused : ℕ → Literal

-- the literal that lies below `top` by a difference of `least` or more
unfoldable pub literal_of : ℕ → ℕ → Difference → Literal
literal_of top least (whole d at) = elim (leb least d && leb d top) [ true ↦ literal (top - d) at | false ↦ refused 19 ]
literal_of top least wrong = refused 19
literal_of top least cut = refused 20

-- a gate's two literals and the byte behind it, or a refusal's number
pub data Gate : Type 0 where
  gate_read : ℕ → ℕ → ℕ → Gate
  refused : ℕ → Gate

abbrev pub behind : ℕ → Literal → Gate
behind a (literal b at) = gate_read a b at
behind a (refused n) = refused n

-- "literals are twice the variable plus inversion, each gate two differences": the gate's own literal less the first one's, and that less the second's
unfoldable pub gate_from : List ℕ → ℕ → ℕ → Gate
gate_from bs v at =
    elim (literal_of (2 * v) 1 (difference_at bs at)) [ refused n ↦ refused n | literal a i ↦ behind a (literal_of a 0 (difference_at bs i)) ]

-- a list of gates, three words each, and the byte behind it; or a refusal's number
pub data Gates : Type 0 where
  found : List ℕ → ℕ → Gates
  refused : ℕ → Gates

abbrev pub gate_before : ℕ → ℕ → ℕ → Gates → Gates
gate_before v a b (found l at) = found (v ∷ a ∷ b ∷ l) at
gate_before v a b (refused n) = refused n

-- n gates, of the variables from v on
unfoldable pub gates_from : List ℕ → ℕ → ℕ → ℕ → Gates
gates_from bs zero v at = found [] at
gates_from bs (suc n) v at = elim (gate_from bs v at) [ refused k ↦ refused k | gate_read a b i ↦ gate_before v a b (gates_from bs n (v + 1) i) ]

-- ---- the file

-- the header with "a gate list in 01's form"
pub record Read : Type 0 where
  pub header : Header
  pub list : List ℕ

abbrev pub gates : Header → List ℕ → Answer Read
gates h l = Answer.good (record { header = h; list = l })

abbrev pub gates_listed : Header → Gates → Answer Read
gates_listed h (found l at) = gates h l
gates_listed h (refused n) = Answer.refused (nowhere n)

-- the gates of a file whose header and lines are good: their variables come after the inputs and latches. "What follows the gates is skipped."
abbrev pub gates_behind : List ℕ → Start → Gates
gates_behind bs s = gates_from bs s.header.gates (s.header.inputs + s.header.latches + 1) s.next

unfoldable pub read_aiger : List ℕ → Answer Read
read_aiger bs = elim (gates_start bs) [ none ↦ Answer.refused (nowhere 18) | some s ↦ gates_listed s.header (gates_behind bs s) ]
