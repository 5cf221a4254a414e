-- What the code leaves and asks. n is the number of lanes.
-- Assumes nothing.
use Rattle.std.specs.Prelude.{◌≡◌, Ok, Err, List, ℕ, ◌+◌, ◌*◌, ◌/◌, ◌%◌, ◌^◌, ◌≤◌, ◌<◌, length, get_or, replicate}
use Rattle.std.proofs.Math.Option.{Option, none, some}
use Rattle.words.specs.Bit.{bit_at}
use Rattle.reads.specs.Search.{Lane, joined}
use Rattle.reads.specs.Packing.{times}
use Rattle.reads_try.specs.LaneTable.{table_of}
use Rattle.handed_pairs.specs.HandedPair.{SetFormed}
use Rattle.std.specs.declared.result.Result.{Result}
use Rattle.handed.specs.declared.fill.Misplaced.{Misplaced}

-- the table of lanes that are a packing, or an empty one
abbrev pub table_handed : ℕ → Option ℕ → List Lane → List ℕ
table_handed n none lanes = table_of lanes
table_handed n (some x) lanes = replicate (32 * n) 0

-- the first bad pair's item, in 64 bits, or the number of lanes
abbrev pub judged_of : Option ℕ → ℕ → Result ℕ Misplaced
judged_of none count = Ok count
judged_of (some x) count = Err (record { item = x % 2 ^ 64 })

-- what filling asks: a set in form, a row of the table for each lane, a bit for each pair
pub record Fillable (set : List ℕ) (table seen n : ℕ) : Type 0 where
  pub formed : SetFormed set
  pub room : table ≡ 32 * n
  pub some_lanes : 0 < n
  pub few-lanes : n ≤ 256
  pub marks : seen ≡ 256

-- what lanes without a bad pair leave: a mark for each pair of theirs, and their table where there are n of them
pub record PairsFilled (set : List ℕ) (n : ℕ) (lanes : List Lane) (table seen : List ℕ) : Type 0 where
  pub marked : (p : ℕ) → p < length set / 2 → bit_at seen p ≡ times (get_or set (2 * p) 0) (get_or set (2 * p + 1) 0) (joined lanes)
  pub table_is : length lanes ≡ n → table ≡ table_of lanes

-- what any set's rounds ask
pub record LanesSolvable (table seen n : ℕ) : Type 0 where
  pub room : table ≡ 32 * n
  pub some_lanes : 0 < n
  pub few-lanes : n ≤ 256
  pub marks : seen ≡ 256
