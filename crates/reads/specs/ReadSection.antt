-- The words of the rounds: document 01, "The script of a part", "per round 512 words: word and mask of lane i at 2i and 2i+1, zero where none".
-- Assumes nothing.
use Rattle.std.specs.Prelude.{List, [], ◌∷◌, ◌++◌, ℕ, zero, suc, ◌+◌}
use Rattle.reads.specs.Search.{Lane, longest}

-- word and mask of a lane in round r
unfoldable pub lane_round_words : Lane → ℕ → List ℕ
lane_round_words [] r = 0 ∷ 0 ∷ []
lane_round_words (p ∷ ps) zero = p.word ∷ p.mask ∷ []
lane_round_words (p ∷ ps) (suc r) = lane_round_words ps r

-- round r, lane after lane
unfoldable pub round_words : List Lane → ℕ → List ℕ
round_words [] r = []
round_words (l ∷ ls) r = lane_round_words l r ++ round_words ls r

-- n rounds from round r
unfoldable pub rounds_from : List Lane → ℕ → ℕ → List ℕ
rounds_from ls zero r = []
rounds_from ls (suc n) r = round_words ls r ++ rounds_from ls n (r + 1)

-- the read section
abbrev pub read_section : List Lane → List ℕ
read_section ls = rounds_from ls (longest ls) 0
