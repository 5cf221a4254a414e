-- The lines as the words of a read section give them, over the number of lanes n: word and mask of lane i in round r stand at 2nr + 2i and the
-- word after it, and mask 0 is no pair.
-- Assumes nothing.
use Rattle.std.specs.Prelude.{true, false, List, [], ◌++◌, ℕ, zero, suc, ◌+◌, ◌*◌, eqb, get_or}
use Rattle.listing_line.specs.Line.{line}

abbrev pub pair_start : ℕ → ℕ → ℕ → ℕ
pair_start n i r = 2 * n * r + 2 * i

unfoldable pub pair_line : ℕ → List ℕ → ℕ → ℕ → List ℕ
pair_line n s i r =
    elim (eqb (get_or s (pair_start n i r + 1) 0) 0) [ true ↦ [] | false ↦ line i r (get_or s (pair_start n i r) 0) (get_or s (pair_start n i r + 1) 0) ]

-- t rounds of lane i from round r on
unfoldable pub lane_round_lines : ℕ → List ℕ → ℕ → ℕ → ℕ → List ℕ
lane_round_lines n s i zero r = []
lane_round_lines n s i (suc t) r = pair_line n s i r ++ lane_round_lines n s i t (r + 1)

-- t lanes from lane i on, each of so many rounds
unfoldable pub section_lines : ℕ → List ℕ → ℕ → ℕ → ℕ → List ℕ
section_lines n s rounds zero i = []
section_lines n s rounds (suc t) i = lane_round_lines n s i rounds 0 ++ section_lines n s rounds t (i + 1)
