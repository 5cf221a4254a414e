-- A packing from outside: document 02, 8/13. "Accept it exactly when it has 256 lanes, empty ones counted, every pair of the read set stands in
-- exactly one lane once, nothing else stands there, and no lane has more than 32 bits." n is the number of lanes, ps the pairs of the read set.
-- Assumes nothing.
use Rattle.std.specs.Prelude.{Bool, true, false, ◌&&◌, List, [], ◌∷◌, ◌++◌, ℕ, suc, ◌+◌, ◌*◌, ◌%◌, ◌^◌, leb, ltb, eqb, length}
use Rattle.std.proofs.Math.Option.{Option, none, some}
use Rattle.words.specs.Answer.{Answer, good, refused, at_item, nowhere}
use Rattle.reads.specs.ReadSet.{Pair, bits, pairs_of, broken}
use Rattle.reads.specs.Search.{Lane, joined}
use Rattle.reads.specs.Packing.{times}
use Rattle.reads.specs.SetAnswer.{Packed, set_fitted}

-- ---- the lanes that words say

-- the number that a word with a mask has in the set; as many as the set has where it does not stand there
unfoldable pub pair_index : List Pair → ℕ → ℕ → ℕ
pair_index [] w m = 0
pair_index (p ∷ ps) w m = elim (eqb p.word w && eqb p.mask m) [ true ↦ 0 | false ↦ suc (pair_index ps w m) ]

-- a pair that is handed in, with that number
abbrev pub pair_for : List Pair → ℕ → ℕ → Pair
pair_for ps w m = record { at = pair_index ps w m; word = w; mask = m }

-- a pair in front of the first lane, which it begins where there is none
unfoldable pub in_front : Pair → List Lane → List Lane
in_front p [] = (p ∷ []) ∷ []
in_front p (l ∷ ls) = (p ∷ l) ∷ ls

-- Two words a pair, lane after lane. A pair with mask 0 ends its lane; its word is not looked at.
unfoldable pub pair_more : List Pair → ℕ → ℕ → List Lane → List Lane
pair_more ps w m ls = elim (eqb m 0) [ true ↦ [] ∷ ls | false ↦ in_front (pair_for ps w m) ls ]

-- A last half pair is such an end, and pairs behind the last end are a lane too. So every list of words is some list of lanes.
unfoldable pub lanes_in : List Pair → List ℕ → List Lane
lanes_in ps [] = []
lanes_in ps (w ∷ []) = [] ∷ []
lanes_in ps (w ∷ m ∷ ws) = pair_more ps w m (lanes_in ps ws)

-- lanes as words: each with an end
unfoldable pub lane_words : Lane → List ℕ
lane_words [] = 0 ∷ 0 ∷ []
lane_words (p ∷ l) = p.word ∷ p.mask ∷ lane_words l

unfoldable pub words_of : List Lane → List ℕ
words_of [] = []
words_of (l ∷ ls) = lane_words l ++ words_of ls

-- ---- 27: "not a packing of this set"

-- whether a pair is neither foreign nor repeated nor overfilling: `stood` are the pairs that stand before it, b the bits that its lane has by then
unfoldable pub belongs : List Pair → List Pair → ℕ → Pair → Bool
belongs ps stood b p = ltb 0 (times p.word p.mask ps) && eqb (times p.word p.mask stood) 0 && leb (b + bits p) 32

-- "item lane·64 + place of the first foreign, repeated or overfilling pair": in what is left of a lane, of which the next pair has item x
unfoldable pub bad_from : List Pair → List Pair → ℕ → ℕ → Lane → Option ℕ
bad_from ps stood b x [] = none
bad_from ps stood b x (p ∷ l) = elim (belongs ps stood b p) [ true ↦ bad_from ps (stood ++ p ∷ []) (b + bits p) (x + 1) l | false ↦ some x ]

-- in the lanes from lane i on, those past the n-th too
unfoldable pub bad_pair : List Pair → List Pair → ℕ → List Lane → Option ℕ
bad_pair ps stood i [] = none
bad_pair ps stood i (l ∷ ls) = elim (bad_from ps stood 0 (64 * i) l) [ some x ↦ some x | none ↦ bad_pair ps (stood ++ l) (i + 1) ls ]

-- whether each pair of the set stands among those handed in
unfoldable pub all_stand : List Pair → List Pair → Bool
all_stand [] qs = true
all_stand (p ∷ ps) qs = ltb 0 (times p.word p.mask qs) && all_stand ps qs

-- whether there are n lanes, and each pair of the set stands in them
unfoldable pub whole : ℕ → List Pair → List Lane → Bool
whole n ps lanes = eqb (length lanes) n && all_stand ps (joined lanes)

-- the first such pair, "else lane count·64"
unfoldable pub fault : ℕ → List Pair → List Lane → Option ℕ
fault n ps lanes =
    elim (bad_pair ps [] 0 lanes) [
      | some x ↦ some x
      | none ↦ elim (whole n ps lanes) [ true ↦ none | false ↦ some (64 * length lanes) ]
    ]

-- An item is told in 64 bits: more than 2^58 lanes, which are more words than a machine has, are told by the rest.
unfoldable pub told_item : Option ℕ → Option ℕ
told_item none = none
told_item (some x) = some (x % 2 ^ 64)

-- ---- what a read set with lanes handed in gets: "27, where 4, 21 and 22 stood", and "its piece size reads 0"

unfoldable pub judged : ℕ → List Pair → List Lane → Answer Packed
judged n ps lanes = elim (told_item (fault n ps lanes)) [ some i ↦ refused (at_item 27 i) | none ↦ good (record { size = 0; lanes = lanes }) ]

-- 3 before it
unfoldable pub handed_packed : ℕ → List Pair → List ℕ → Answer Packed
handed_packed n ps ws = elim (ltb 0 (length ps)) [ false ↦ refused (nowhere 3) | true ↦ judged n ps (lanes_in ps ws) ]

-- 1 and 2 before that
unfoldable pub handed_set : ℕ → List Pair → List ℕ → Answer Packed
handed_set n ps ws =
    elim (leb (length ps) 8192) [
      | false ↦ refused (nowhere 1)
      | true ↦ elim (broken ps) [ some i ↦ refused (at_item 2 i) | none ↦ handed_packed n ps ws ]
    ]

-- 14 after it, where the lent result has o words, and 32 before all, where the lent room has r
unfoldable pub handed_answer : ℕ → List ℕ → List ℕ → ℕ → ℕ → Answer Packed
handed_answer n set ws o r = elim (leb 16384 r) [ false ↦ refused (nowhere 32) | true ↦ set_fitted n o (handed_set n (pairs_of set) ws) ]
