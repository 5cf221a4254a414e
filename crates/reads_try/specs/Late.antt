-- Pairs of 32 bits that come late in a try. Each of the first n pairs finds a lane of its own empty, n the number of lanes; after them no lane
-- is empty, and such a pair finds no room.
-- Assumes nothing.
use Rattle.std.specs.Prelude.{Bool, true, false, List, [], ◌∷◌, ℕ, eqb, drop}
use Rattle.reads.specs.ReadSet.{Pair, pairs_of}
use Rattle.reads_try.specs.LaneTable.{run_of}

-- a pair of 32 bits is among these
unfoldable pub any_full : List Pair → Bool
any_full [] = false
any_full (p ∷ ps) = elim (eqb p.mask 4294967295) [ true ↦ true | false ↦ any_full ps ]

-- one comes after the first n pairs of the pieces that keys name
abbrev pub late_full : ℕ → ℕ → List ℕ → List ℕ → Bool
late_full n k set keys = any_full (drop n (run_of k (pairs_of set) keys))
