-- M1 to M5: read sets, as words and masks, with what the definitions of `reads` give for them.
-- Assumes nothing.
use Rattle.std.proofs.Math.Option.{Option, none, some}
use Rattle.std.specs.Prelude.{List, [], ◌∷◌, ℕ, zero, suc, ◌+◌, ◌/◌, length}
use Rattle.reads.specs.ReadSet.{Pair}
use Rattle.reads.specs.Search.{Lane, Tried, all, stuck, try, Found, won, ended, first_win, longest}
use Rattle.reads.specs.Local.{local_of}
use Rattle.words.specs.Answer.{Answer, good, refused}
use Rattle.reads.specs.SetAnswer.{Packed, set_answer}

-- n pairs of the mask m, from the word w on
unfoldable pub alike : ℕ → ℕ → ℕ → List ℕ
alike zero w m = []
alike (suc n) w m = w ∷ m ∷ alike n (w + 1) m

-- a bit that is asked for: its word and its number
pub record BitAsked : Type 0 where
  pub word : ℕ
  pub bit : ℕ

abbrev pub bit_asked : ℕ → ℕ → BitAsked
bit_asked w k = record { word = w; bit = k }

abbrev pub or_none : Option ℕ → ℕ
or_none none = 9999
or_none (some n) = n

unfoldable pub positions : List Lane → List BitAsked → List ℕ
positions ls [] = []
positions ls (b ∷ bs) = or_none (local_of ls b.word b.bit) ∷ positions ls bs

-- what is seen of an outcome: the refusal's number and item after a 0; or the rounds and the piece size, then the local positions
-- of some bits
unfoldable pub seen : Answer Packed → List BitAsked → List ℕ
seen (refused q) bs = 0 ∷ q.number ∷ q.item ∷ []
seen (good x) bs = longest x.lanes ∷ x.size ∷ positions x.lanes bs

-- a read set at 256 lanes, with working room and result room enough
abbrev pub read_rounds : List ℕ → List BitAsked → List ℕ
read_rounds ws bs = seen (set_answer 256 ws 16384 16384) bs

-- M5's sizes: of piece sizes k, k/2, k/4 .., m of them, each with whether the try of that size places all (1) or ends (0); and whether the search places all
-- within its first m sizes
abbrev pub places_all : Tried → ℕ
places_all (all lanes) = 1
places_all (stuck p lanes) = 0

unfoldable pub tries_seen : List Pair → ℕ → ℕ → List ℕ
tries_seen ps zero k = []
tries_seen ps (suc m) k = k ∷ places_all (try 256 ps k) ∷ tries_seen ps m (k / 2)

abbrev pub placed_in : Found → ℕ
placed_in ended = 0
placed_in (won k lanes) = 1

abbrev pub placed_within : List Pair → ℕ → ℕ
placed_within ps m = placed_in (first_win 256 ps m (length ps))
