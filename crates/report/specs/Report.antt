-- The monthly occupancy report, part by part: document 02, 9/13. "Over a batch of parts, print exact totals: parts, requested bits, lanes in use,
-- rounds, empty rounds (lane and round with no pair), script words". n is the number of lanes.
-- Assumes nothing.
use Rattle.std.specs.Prelude.{Bool, true, false, ◌&&◌, List, [], ◌∷◌, ℕ, ◌+◌, ◌-◌, leb, ltb, length}
use Rattle.words.specs.Answer.{Answer, refused, nowhere}
use Rattle.words.specs.Edition.{part_words}
use Rattle.reads.specs.ReadSet.{total, pairs_of}
use Rattle.reads.specs.Search.{Lane, longest}
use Rattle.reads.specs.SetAnswer.{Packed, read_set}
use Rattle.handed_lanes.specs.Handed.{handed_set}

-- a part as it is fed: its read set, the words of lanes handed in, its stages
pub record Part : Type 0 where
  pub set : List ℕ
  pub lanes : List ℕ
  pub stages : ℕ

abbrev pub part_given : List ℕ → List ℕ → ℕ → Part
part_given set lanes stages = record { set = set; lanes = lanes; stages = stages }

-- "1..=255 stages"
abbrev pub stages_right : ℕ → Bool
stages_right s = leb 1 s && leb s 255

-- Its outcome: 5 for its stages, then that of its read set, of our own search where no lanes are handed in.
unfoldable pub part_outcome : ℕ → Part → Answer Packed
part_outcome n p =
    elim (stages_right p.stages) [
      | false ↦ refused (nowhere 5)
      | true ↦ elim (ltb 0 (length p.lanes)) [ false ↦ read_set n (pairs_of p.set) | true ↦ handed_set n (pairs_of p.set) p.lanes ]
    ]

-- "lanes in use": those with a pair
unfoldable pub lane_used : Lane → ℕ
lane_used [] = 0
lane_used (p ∷ l) = 1

unfoldable pub lanes_in_use : List Lane → ℕ
lanes_in_use [] = 0
lanes_in_use (l ∷ ls) = lane_used l + lanes_in_use ls

-- "empty rounds (lane and round with no pair)": over the lanes, r rounds less the lane's pairs
unfoldable pub empty_in : ℕ → List Lane → ℕ
empty_in r [] = 0
empty_in r (l ∷ ls) = (r - length l) + empty_in r ls

-- the bits and the pairs that lanes hold
unfoldable pub contents : List Lane → ℕ
contents [] = 0
contents (l ∷ ls) = total l + contents ls

unfoldable pub pairs_in : List Lane → ℕ
pairs_in [] = 0
pairs_in (l ∷ ls) = length l + pairs_in ls

-- what a good part adds
pub record Gain : Type 0 where
  pub bits : ℕ
  pub lanes : ℕ
  pub rounds : ℕ
  pub empty : ℕ
  pub words : ℕ

abbrev pub gain_of : ℕ → Part → List Lane → Gain
gain_of n p lanes = record {
  bits = total (pairs_of p.set);
  lanes = lanes_in_use lanes;
  rounds = longest lanes;
  empty = empty_in (longest lanes) lanes;
  words = part_words n (longest lanes) p.stages;
}
