-- What the first parts of a major stage put into one block: the running sums from which the starts are taken.
-- Assumes nothing.
use Rattle.std.specs.Prelude.{Bool, true, false, ℕ, eqb}
use Rattle.words.specs.Sum.{sum_to}

-- w where a test holds, else nothing
abbrev pub where_true : Bool → ℕ → ℕ
where_true b w = elim b [ true ↦ w | false ↦ 0 ]

-- what the first n parts, which take `words` each, take in block b
unfoldable pub in_block : (ℕ → ℕ) → (ℕ → ℕ) → ℕ → ℕ → ℕ
in_block block words b n = sum_to (λ j. where_true (eqb (block j) b) (words j)) n
