-- The search: document 01, "Read rounds", second paragraph, sentence by sentence. n is the number of lanes.
-- Assumes nothing.
use Rattle.std.specs.Prelude.{true, false, List, [], ◌∷◌, ◌++◌, ℕ, zero, suc, ◌+◌, ◌/◌, max, leb, length, get_or, set, take, drop, replicate}
use Rattle.std.proofs.Math.Option.{Option, none, some}
use Rattle.words.specs.Round.{next}
use Rattle.reads.specs.ReadSet.{Pair, bits, total}

-- "Cut the list into pieces of that size, the last maybe shorter": at most f pieces, of size k
unfoldable pub pieces_in : ℕ → ℕ → List Pair → List (List Pair)
pieces_in zero k ps = []
pieces_in (suc f) k [] = []
pieces_in (suc f) k (p ∷ ps) = take k (p ∷ ps) ∷ pieces_in f k (drop k (p ∷ ps))

abbrev pub pieces : ℕ → List Pair → List (List Pair)
pieces k ps = pieces_in (length ps) k ps

-- "order pieces by total mask bits, most first, equal totals keeping their order": a piece that stood before all of the given ones takes its
-- place before the first whose total is not above its own
unfoldable pub insert_piece : List Pair → List (List Pair) → List (List Pair)
insert_piece p [] = p ∷ []
insert_piece p (q ∷ qs) = elim (leb (total q) (total p)) [ true ↦ p ∷ q ∷ qs | false ↦ q ∷ insert_piece p qs ]

unfoldable pub ordered : List (List Pair) → List (List Pair)
ordered [] = []
ordered (p ∷ ps) = insert_piece p (ordered ps)

-- lists one after the other
unfoldable pub joined : List (List Pair) → List Pair
joined [] = []
joined (l ∷ ls) = l ++ joined ls

-- a lane: its pairs, round by round
abbrev pub Lane : Type 0
Lane = List Pair

-- "the first lane, going round from the current one, whose bits plus the pair's are at most 32": f lanes from lane j are looked at
unfoldable pub first_room : ℕ → ℕ → List Lane → ℕ → ℕ → Option ℕ
first_room n zero lanes b j = none
first_room n (suc f) lanes b j = elim (leb (total (get_or lanes j []) + b) 32) [ true ↦ some j | false ↦ first_room n f lanes b (next n j) ]

-- a pair at the end of lane i
abbrev pub push : List Lane → ℕ → Pair → List Lane
push lanes i p = set lanes i (get_or lanes i [] ++ p ∷ [])

-- How a try ends: all is placed, or no lane had room for this pair. The lanes are as they then stand.
pub data Tried : Type 0 where
  all : List Lane → Tried
  stuck : Pair → List Lane → Tried

-- "Each pair goes to [that lane]; the current lane becomes the next one round. If all lanes lack room the try ends at once."
unfoldable pub try_from : ℕ → List Pair → List Lane → ℕ → Tried
try_from n [] lanes j = all lanes
try_from n (p ∷ ps) lanes j =
    elim (first_room n n lanes (bits p) j) [
      | none ↦ stuck p lanes
      | some i ↦ try_from n ps (push lanes i p) (next n i)
    ]

-- "Start at lane 0"
abbrev pub try : ℕ → List Pair → ℕ → Tried
try n ps k = try_from n (joined (ordered (pieces k ps))) (replicate n []) 0

-- What the search finds: the piece size of the try that places all, with its lanes; or every try ended without room.
pub data Found : Type 0 where
  won : ℕ → List Lane → Found
  ended : Found

-- "Try piece sizes n, n/2, n/4 .. down to 1 (whole division)", where 01 has n pairs; here k. "The first try that places all is the result." f sizes at most.
unfoldable pub first_win : ℕ → List Pair → ℕ → ℕ → Found
first_win n ps zero k = ended
first_win n ps (suc f) zero = ended
first_win n ps (suc f) (suc k) = elim (try n ps (suc k)) [ all lanes ↦ won (suc k) lanes | stuck p lanes ↦ first_win n ps f (suc k / 2) ]

-- fourteen sizes are enough for 8192 pairs
abbrev pub found_of : ℕ → List Pair → Found
found_of n ps = first_win n ps 14 (length ps)

-- Document 02, 4/13: "the word it stopped at in the try of size 1", bit 31 included. That try is the last one.
unfoldable pub stop_word : Tried → ℕ
stop_word (all lanes) = 0
stop_word (stuck p lanes) = p.word

abbrev pub last_word : ℕ → List Pair → ℕ
last_word n ps = stop_word (try n ps 1)

-- its lanes, and document 02, 2/13: "the piece size of the winning try", 0 where none won
unfoldable pub lanes_found : Found → Option (List Lane)
lanes_found (won k lanes) = some lanes
lanes_found ended = none

unfoldable pub size_found : Found → ℕ
size_found (won k lanes) = k
size_found ended = 0

abbrev pub lanes_of : ℕ → List Pair → Option (List Lane)
lanes_of n ps = lanes_found (found_of n ps)

abbrev pub size_of : ℕ → List Pair → ℕ
size_of n ps = size_found (found_of n ps)

-- "rounds is the longest lane"
unfoldable pub longest : List Lane → ℕ
longest [] = 0
longest (l ∷ ls) = max (length l) (longest ls)
