-- Local positions: document 01, "Read rounds", third paragraph.
-- Assumes nothing.
use Rattle.std.specs.Prelude.{true, false, List, [], ◌∷◌, ℕ, zero, suc, ◌+◌, ◌*◌, ◌/◌, ◌^◌, eqb, get_or}
use Rattle.std.proofs.Math.Option.{Option, none, some}
use Rattle.words.specs.Bit.{pop}
use Rattle.reads.specs.ReadSet.{total}
use Rattle.reads.specs.Search.{Lane}

-- "The round of a pair is its place in its lane": the word and the mask that a lane has in round r, 0 where none, and the pairs of later rounds
unfoldable pub word_in : Lane → ℕ → ℕ
word_in [] r = 0
word_in (p ∷ ps) zero = p.word
word_in (p ∷ ps) (suc r) = word_in ps r

unfoldable pub mask_in : Lane → ℕ → ℕ
mask_in [] r = 0
mask_in (p ∷ ps) zero = p.mask
mask_in (p ∷ ps) (suc r) = mask_in ps r

unfoldable pub later : Lane → ℕ → Lane
later [] r = []
later (p ∷ ps) zero = ps
later (p ∷ ps) (suc r) = later ps r

-- "Local position of bit k of a pair [in lane i, round r]: 32·lane, plus all mask bits of later rounds in that lane, plus mask bits above k in
-- the same pair."
unfoldable pub local_at : List Lane → ℕ → ℕ → ℕ → ℕ
local_at lanes i r k = 32 * i + (total (later (get_or lanes i []) r) + pop (mask_in (get_or lanes i []) r / 2 ^ (k + 1)))

-- where the pair of a word stands: its lane, and its round in it
pub record LaneRound : Type 0 where
  pub lane : ℕ
  pub round : ℕ

unfoldable pub round_from : ℕ → Lane → ℕ → Option ℕ
round_from r [] w = none
round_from r (p ∷ ps) w = elim (eqb p.word w) [ true ↦ some r | false ↦ round_from (r + 1) ps w ]

unfoldable pub lane_round_from : ℕ → List Lane → ℕ → Option LaneRound
lane_round_from i [] w = none
lane_round_from i (l ∷ ls) w = elim (round_from 0 l w) [ some r ↦ some (record { lane = i; round = r }) | none ↦ lane_round_from (i + 1) ls w ]

-- the local position of bit k of the pair of word w
unfoldable pub local_of : List Lane → ℕ → ℕ → Option ℕ
local_of lanes w k = elim (lane_round_from 0 lanes w) [ some s ↦ some (local_at lanes s.lane s.round k) | none ↦ none ]
