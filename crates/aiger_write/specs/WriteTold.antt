-- What the functions that write answer and ask: the definitions of `aiger` in the code's terms.
-- Assumes nothing.
use Rattle.std.specs.Prelude.{◌≡◌, Bool, ◌&&◌, List, ℕ, ◌+◌, ◌*◌, ◌%◌, ◌^◌, ◌<◌, ◌≤◌, leb, ltb, eqb, length, Some, None}
use Rattle.std.specs.declared.option.Option as code
use Rattle.words.specs.Answer.{Answer, good, refused}
use Rattle.gatelist.specs.ListWords.{whole_gates}
use Rattle.aiger.specs.Writing.{inputs_of}

-- what the bytes of a gate ask of its numbers
pub record GateRight (pin first second : ℕ) : Type 0 where
  pub fits : pin ≤ 2 ^ 30
  pub below : first < 2 * pin
  pub under : second ≤ first

-- a gate whose pin is the one that comes next
unfoldable pub right_of : ℕ → ℕ → ℕ → ℕ → Bool
right_of pin own first second = eqb own pin && ltb first (2 * pin) && leb second first

-- what judging gate by gate asks: no gate is cut, and the last pin would be in range
pub record InRange (l : List ℕ) (inputs : ℕ) : Type 0 where
  pub is : inputs ≡ inputs_of l
  pub whole : length l % 3 ≡ 0
  pub fits : inputs + whole_gates l ≤ 2 ^ 30

-- how long the text is, where there is one
abbrev pub list_judged : Answer (List ℕ) → code.Option ℕ
list_judged (good t) = Some (length t)
list_judged (refused q) = None
