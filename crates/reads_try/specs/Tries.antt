-- What the functions answer, and what they ask. n is the number of lanes.
-- Assumes nothing.
use Rattle.std.specs.Prelude.{◌≡◌, ⊤, Ok, Err, true, false, List, [], ℕ, zero, suc, ◌+◌, ◌*◌, ◌/◌, ◌%◌, ◌≤◌, ◌<◌, leb, length, get_or, take, replicate}
use Rattle.std.proofs.Math.Option.{Option, none, some}
use Rattle.words.specs.Bit.{pop}
use Rattle.reads.specs.ReadSet.{Pair, bits, pairs_of}
use Rattle.words.specs.Round.{next}
use Rattle.reads.specs.Search.{Lane, first_room, push, Tried, all, stuck, try_from}
use Rattle.std.specs.declared.result.Result.{Result}
use Rattle.reads_try.specs.declared.Stuck.{Stuck}
use Rattle.reads_try.specs.LaneTable.{run_of}
use Rattle.reads_try.specs.TableLanes.{pair_at, row_at, lanes_at, LanesTabled, LanesLoaded}

-- The search for room over the bits of the lanes as running numbers: f lanes from lane j are looked at.
unfoldable pub first_free : ℕ → ℕ → List ℕ → ℕ → ℕ → Option ℕ
first_free n zero used b j = none
first_free n (suc f) used b j = elim (leb (get_or used j 0 + b) 32) [ true ↦ some j | false ↦ first_free n f used b (next n j) ]

-- the lane for pair p, over the lanes that the room says
abbrev pub lane_for : List ℕ → List ℕ → ℕ → ℕ → ℕ → Option ℕ
lane_for set room n cur p = first_room n n (lanes_at set room n) (bits (pair_at set p)) cur

-- the lane after the one that took the pair
abbrev pub next_of : ℕ → Option ℕ → Option ℕ
next_of n none = none
next_of n (some i) = some (next n i)

-- the lanes after it took the pair
abbrev pub lanes_after : Option ℕ → List Lane → Pair → List Lane
lanes_after none lanes p = lanes
lanes_after (some i) lanes p = push lanes i p

-- how a try ended, as the code says it, and the lanes as they then stand
abbrev pub ending_of : Tried → Result ⊤ Stuck
ending_of (all lanes) = Ok tt
ending_of (stuck p lanes) = Err (record { word = p.word })

abbrev pub tried_lanes : Tried → List Lane
tried_lanes (all lanes) = lanes
tried_lanes (stuck p lanes) = lanes

-- the try of a set at piece size k, the pieces in the order of the keys, from empty lanes
abbrev pub tried_of : ℕ → ℕ → List ℕ → List ℕ → Tried
tried_of n k set keys = try_from n (run_of k (pairs_of set) keys) (replicate n []) 0

-- what a row's sum asks: its words name pairs of the set
pub record RowNamed (set row : List ℕ) : Type 0 where
  pub short : length row ≤ 32
  pub named : (i : ℕ) → i < length row → get_or row i 0 ≤ length set / 2

-- the same of lane j in the room
pub record LaneRowIn (set room : List ℕ) (j : ℕ) : Type 0 where
  pub in-room : 32 * j + 32 ≤ length room
  pub row : RowNamed set (row_at room j)

-- what the search asks
pub record LanesSearchable (used n from b : ℕ) : Type 0 where
  pub in-used : n ≤ used
  pub lane : from < n
  pub mask : b ≤ 32

-- what a put of pair p, of b bits, into lane j asks: room in the lane, and a free word in the row
pub record PairPuttable (room : ℕ) (used held : List ℕ) (j p b : ℕ) : Type 0 where
  pub in-used : j < length used
  pub in_held : j < length held
  pub fits : get_or used j 0 + b ≤ 32
  pub free : get_or held j 0 < 32
  pub in-room : 32 * j + get_or held j 0 < room
  pub pair : p < 8192

-- what a placing of pair p asks, from the current lane on
pub record PairPlaceable (set room used held : List ℕ) (n cur p : ℕ) : Type 0 where
  pub lane : cur < n
  pub pairs : length set ≤ 16384
  pub pair : p < length set / 2
  pub some_bits : 0 < pop (get_or set (2 * p + 1) 0)
  pub filled : LanesTabled set room n
  pub loaded : LanesLoaded (lanes_at set room n) used held

-- what a try asks: whole pairs, no mask that is 0, empty lanes
pub record TryReady (set room used held : List ℕ) (n k : ℕ) : Type 0 where
  pub whole : length set % 2 ≡ 0
  pub pairs : length set ≤ 16384
  pub masks : (p : ℕ) → p < length set / 2 → 0 < pop (get_or set (2 * p + 1) 0)
  pub in-room : 32 * n ≤ length room
  pub empty : take (32 * n) room ≡ replicate (32 * n) 0
  pub no_bits : used ≡ replicate n 0
  pub no_pairs : held ≡ replicate n 0
  pub some_lanes : 0 < n
  pub size : k ≤ 8192
