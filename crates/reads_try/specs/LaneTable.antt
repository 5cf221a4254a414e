-- How the lanes lie in the lent room: 32 words a lane, each pair's number and one, zeros after them; and the running numbers of each lane. And
-- the pieces that keys name.
-- Assumes nothing.
use Rattle.std.specs.Prelude.{List, [], ◌∷◌, ◌++◌, map, ℕ, zero, suc, ◌+◌, ◌*◌, ◌%◌, length, take, drop}
use Rattle.reads.specs.ReadSet.{Pair, total}
use Rattle.reads.specs.Search.{Lane}

-- n words of a lane
unfoldable pub row : ℕ → Lane → List ℕ
row zero l = []
row (suc n) [] = 0 ∷ row n []
row (suc n) (p ∷ l) = (p.at + 1) ∷ row n l

unfoldable pub table_of : List Lane → List ℕ
table_of [] = []
table_of (l ∷ ls) = row 32 l ++ table_of ls

-- the bits of each lane, and the pairs
abbrev pub used_of : List Lane → List ℕ
used_of ls = map total ls

abbrev pub held_of : List Lane → List ℕ
held_of ls = map length ls

-- piece i of size k
abbrev pub piece_of : ℕ → List Pair → ℕ → List Pair
piece_of k ps i = take k (drop (i * k) ps)

-- the pairs of the pieces that keys name, one piece after the other: a key's rest by 8192 is its piece's number
unfoldable pub run_of : ℕ → List Pair → List ℕ → List Pair
run_of k ps [] = []
run_of k ps (x ∷ xs) = piece_of k ps (x % 8192) ++ run_of k ps xs
