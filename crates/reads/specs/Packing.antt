-- The plain statement of a packing, apart from how it is found; and when there is none.
-- Document 02, 4/13: "With more than 8192 bits, or more than 256 words of 17 bits or more, no packing exists."
-- Assumes nothing.
use Rattle.std.specs.Prelude.{◌≡◌, true, false, ◌&&◌, List, [], ◌∷◌, ℕ, suc, ◌+◌, ◌*◌, ◌≤◌, ◌<◌, leb, eqb, length, get_or}
use Rattle.words.specs.Bit.{pop}
use Rattle.reads.specs.ReadSet.{Pair, total}
use Rattle.reads.specs.Search.{Lane, joined}

-- how often a word with a mask stands in a list of pairs
unfoldable pub times : ℕ → ℕ → List Pair → ℕ
times w m [] = 0
times w m (p ∷ ps) = elim (eqb p.word w && eqb p.mask m) [ true ↦ suc (times w m ps) | false ↦ times w m ps ]

-- Every pair of the set stands in exactly one lane once and nothing else stands there (a set has no pair twice), and no lane has more than
-- 32 bits.
pub record Packing (n : ℕ) (ps : List Pair) (lanes : List Lane) : Type 0 where
  pub wide : length lanes ≡ n
  pub once : (w m : ℕ) → times w m (joined lanes) ≡ times w m ps
  pub thin : (i : ℕ) → total (get_or lanes i []) ≤ 32

-- the sum of f over the pairs
unfoldable pub weigh : (Pair → ℕ) → List Pair → ℕ
weigh f [] = 0
weigh f (p ∷ ps) = f p + weigh f ps

-- "words of 17 bits or more": 1 for such a mask, 0 for any other; and how many there are
abbrev pub wide_from : ℕ
wide_from = 17

unfoldable pub wide_mask : ℕ → ℕ
wide_mask m = elim (leb wide_from (pop m)) [ true ↦ 1 | false ↦ 0 ]

abbrev pub wide_pairs : List Pair → ℕ
wide_pairs ps = weigh (λ p. wide_mask p.mask) ps

-- the two facts, for n lanes: 32·256 are 8192
abbrev pub TooManyBits : Type 0
TooManyBits = (n : ℕ) (ps : List Pair) (lanes : List Lane) → 32 * n < total ps → Packing n ps lanes → ⊥

abbrev pub TooManyWide : Type 0
TooManyWide = (n : ℕ) (ps : List Pair) (lanes : List Lane) → n < wide_pairs ps → Packing n ps lanes → ⊥
