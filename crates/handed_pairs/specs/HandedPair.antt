-- One pair that is handed in: whether it may stand where it does, and where the table has it. n is the number of lanes.
-- Assumes nothing.
use Rattle.std.specs.Prelude.{◌≡◌, true, false, ◌&&◌, List, ℕ, ◌+◌, ◌/◌, ◌≤◌, leb, ltb, eqb, length}
use Rattle.std.proofs.Math.Option.{Option, none, some}
use Rattle.words.specs.Bit.{bit_at, pop}
use Rattle.reads.specs.ReadSet.{pairs_of, broken}
use Rattle.reads_try.specs.TableLanes.{put_in_lane}
use Rattle.handed_lanes.specs.Handed.{pair_index}

-- the set is in form and has 8192 pairs at most
pub record SetFormed (set : List ℕ) : Type 0 where
  pub few : length set ≤ 16384
  pub form : broken (pairs_of set) ≡ none

-- a pair's number where it stands in the set
abbrev pub pair_found : List ℕ → ℕ → ℕ → Option ℕ
pair_found set w m = elim (ltb (pair_index (pairs_of set) w m) (length set / 2)) [ true ↦ some (pair_index (pairs_of set) w m) | false ↦ none ]

-- a pair's number where it stands in the set, has no mark and its lane has room for it
unfoldable pub fitting_pair : List ℕ → List ℕ → ℕ → ℕ → ℕ → Option ℕ
fitting_pair set seen b w m =
    elim (ltb (pair_index (pairs_of set) w m) (length set / 2) && eqb (bit_at seen (pair_index (pairs_of set) w m)) 0 && leb (b + pop m) 32) [
      | true ↦ some (pair_index (pairs_of set) w m)
      | false ↦ none
    ]

-- the table with pair p at a lane's place; of a lane that it has no row for it holds nothing
unfoldable pub tabled : ℕ → List ℕ → ℕ → ℕ → ℕ → List ℕ
tabled n table i r p = elim (ltb i n) [ true ↦ put_in_lane table i r p | false ↦ table ]
