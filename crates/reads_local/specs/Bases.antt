-- Where the bits of each pair begin: 32·lane, plus all mask bits of later rounds in that lane, stored at the pair's number.
-- Assumes nothing.
use Rattle.std.specs.Prelude.{List, [], ◌∷◌, ℕ, ◌+◌, ◌*◌, ◌/◌, ◌%◌, ◌^◌, ◌≤◌, ◌<◌, length, get_or, set}
use Rattle.words.specs.Bit.{pop}
use Rattle.reads.specs.ReadSet.{total}
use Rattle.reads.specs.Search.{Lane}
use Rattle.sort.specs.HalfSearch.{Monotone, least}

-- the pairs of a lane whose bits begin at b, and of all lanes from lane i on
unfoldable pub store_lane : ℕ → Lane → List ℕ → List ℕ
store_lane b [] bases = bases
store_lane b (p ∷ ps) bases = set (store_lane b ps bases) p.at (b + total ps)

unfoldable pub store_lanes : ℕ → List Lane → List ℕ → List ℕ
store_lanes i [] bases = bases
store_lanes i (l ∷ ls) bases = store_lanes (i + 1) ls (store_lane (32 * i) l bases)

-- the word of pair e
abbrev pub pair_word_of : List ℕ → ℕ → ℕ
pair_word_of ws e = get_or ws (2 * e) 0

-- the pair of bit q, and the bit's local position: where the pair's bits begin, plus its mask bits above
abbrev pub pair_of : List ℕ → ℕ → ℕ
pair_of ws q = least (pair_word_of ws) (length ws / 2) (q / 32)

unfoldable pub local_by : List ℕ → List ℕ → ℕ → ℕ
local_by ws bases q = get_or bases (pair_of ws q) 0 + pop (get_or ws (2 * pair_of ws q + 1) 0 / 2 ^ (q % 32 + 1))

-- the set's words ascend, and one of them is bit q's; the pairs' bits begin below 8192
pub record Locatable (ws bases : List ℕ) (q : ℕ) : Type 0 where
  pub order : Monotone (pair_word_of ws) (length ws / 2)
  pub there : pair_of ws q < length ws / 2
  pub room : length ws / 2 ≤ length bases
  pub small : get_or bases (pair_of ws q) 0 < 8192
