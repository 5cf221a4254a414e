-- What the words of a table say, the other way round: the pairs that they name. And what is kept of lanes while a try runs.
-- Assumes nothing.
use Rattle.std.specs.Prelude.{◌≡◌, List, [], ◌∷◌, ◌++◌, ℕ, zero, suc, ◌+◌, ◌*◌, ◌/◌, ◌≤◌, ◌<◌, length, get_or, set, take, drop}
use Rattle.reads.specs.ReadSet.{Pair, bits, total}
use Rattle.reads.specs.Search.{Lane}
use Rattle.reads_try.specs.LaneTable.{table_of, used_of, held_of}

-- pair p of a set
abbrev pub pair_at : List ℕ → ℕ → Pair
pair_at ws p = record { at = p; word = get_or ws (2 * p) 0; mask = get_or ws (2 * p + 1) 0 }

-- the lane of a row: its words are a pair's number and one, up to a 0 or the end
unfoldable pub lane_of : List ℕ → List ℕ → Lane
lane_of ws [] = []
lane_of ws (zero ∷ es) = []
lane_of ws (suc p ∷ es) = pair_at ws p ∷ lane_of ws es

-- row j
abbrev pub row_at : List ℕ → ℕ → List ℕ
row_at t j = take 32 (drop (32 * j) t)

-- n lanes, row by row
unfoldable pub lanes_at : List ℕ → List ℕ → ℕ → List Lane
lanes_at ws t zero = []
lanes_at ws t (suc n) = lane_of ws (take 32 t) ∷ lanes_at ws (drop 32 t) n

-- the words with pair p in lane j, behind h pairs
abbrev pub put_in_lane : List ℕ → ℕ → ℕ → ℕ → List ℕ
put_in_lane t j h p = set t (32 * j + h) (p + 1)

-- P holds of each
abbrev pub Each : {A : Type 0} → (A → Type 0) → List A → Type 0
Each P [] = Unit
Each P (x ∷ xs) = P x × Each P xs

-- a pair of the set, with a bit at least
pub record Drawn (ws : List ℕ) (p : Pair) : Type 0 where
  pub in_set : p.at < length ws / 2
  pub same : p ≡ pair_at ws p.at
  pub some_bits : 0 < bits p

-- a lane of such pairs, of 32 bits at most
pub record SoundLane (ws : List ℕ) (l : Lane) : Type 0 where
  pub drawn : Each (Drawn ws) l
  pub light : total l ≤ 32

-- n such lanes
pub record SoundLanes (ws : List ℕ) (n : ℕ) (lanes : List Lane) : Type 0 where
  pub wide : length lanes ≡ n
  pub sound : Each (SoundLane ws) lanes

-- words that begin with the table of such lanes
pub record LanesTabled (ws t : List ℕ) (n : ℕ) : Type 0 where
  pub table : t ≡ table_of (lanes_at ws t n) ++ drop (32 * n) t
  pub kept : SoundLanes ws n (lanes_at ws t n)

-- the running numbers of lanes
pub record LanesLoaded (lanes : List Lane) (used held : List ℕ) : Type 0 where
  pub bits_are : used ≡ used_of lanes
  pub pairs-are : held ≡ held_of lanes
