-- A batch of parts, fed one at a time: document 02, 9/13. It is 48 words, and zeros are the batch of none: word 0 counts the parts that were fed,
-- 1 the good ones, 2 to 6 are their bits, lanes, rounds, empty rounds and script words, 7 is the number of lanes of the edition (of the first part
-- that was fed, good or not), and 8 + N counts the parts refused with N. A word that is not there reads 0.
-- Assumes nothing.
use Rattle.std.specs.Prelude.{Bool, true, false, ◌&&◌, List, [], ◌∷◌, ℕ, zero, suc, ◌+◌, ◌*◌, leb, ltb, eqb, length, get_or, set, replicate}
use Rattle.std.proofs.lemmas.List.Edits.{sets}
use Rattle.words.specs.Sum.{sum_to}
use Rattle.words.specs.Count.{same}
use Rattle.words.specs.Edition.{known}
use Rattle.words.specs.Answer.{Answer, good, refused, nowhere}
use Rattle.reads.specs.SetAnswer.{Packed}
use Rattle.report.specs.Report.{Part, Gain, part_outcome, gain_of}

abbrev pub empty_batch : List ℕ
empty_batch = replicate 48 0

abbrev pub batch_at : List ℕ → ℕ → ℕ
batch_at b i = get_or b i 0

-- the parts that were refused with a number below k
abbrev pub refused_below : List ℕ → ℕ → ℕ
refused_below b k = sum_to (λ i. batch_at b (8 + i)) k

-- ---- feeding

-- "At most 100,000 parts, refused ones included"
abbrev pub most_parts : ℕ
most_parts = 100000

-- a good part adds to words 0 to 6; word 7 is its edition's, as it is of a refused one
unfoldable pub good_fed : ℕ → Gain → List ℕ → List ℕ
good_fed n g b =
    sets b 0
    ((batch_at b 0 + 1) ∷ (batch_at b 1 + 1) ∷ (batch_at b 2 + g.bits) ∷ (batch_at b 3 + g.lanes) ∷ (batch_at b 4 + g.rounds) ∷ (batch_at b 5 + g.empty) ∷ (batch_at b 6 + g.words) ∷ n ∷ [])

-- "a refused part adds only to its line"
unfoldable pub refused_fed : ℕ → ℕ → List ℕ → List ℕ
refused_fed n k b = set (set (set b 0 (batch_at b 0 + 1)) 7 n) (8 + k) (batch_at b (8 + k) + 1)

unfoldable pub fed_with : ℕ → Part → Answer Packed → List ℕ → List ℕ
fed_with n p (good x) b = good_fed n (gain_of n p x.lanes) b
fed_with n p (refused q) b = refused_fed n q.number b

abbrev pub fed : ℕ → Part → List ℕ → List ℕ
fed n p b = fed_with n p (part_outcome n p) b

-- parts one after the other
unfoldable pub fed_all : ℕ → List Part → List ℕ → List ℕ
fed_all n [] b = b
fed_all n (p ∷ ps) b = fed_all n ps (fed n p b)

-- ---- the plain sums over parts

unfoldable pub sum_over : (Part → ℕ) → List Part → ℕ
sum_over f [] = 0
sum_over f (p ∷ ps) = f p + sum_over f ps

-- what a part that is good gains, and whether a part is refused with k
abbrev pub gain_in : (Gain → ℕ) → ℕ → Part → Answer Packed → ℕ
gain_in f n p (good x) = f (gain_of n p x.lanes)
gain_in f n p (refused q) = 0

abbrev pub gained : (Gain → ℕ) → ℕ → Part → ℕ
gained f n p = gain_in f n p (part_outcome n p)

abbrev pub refused_as : ℕ → Answer Packed → ℕ
refused_as k (good x) = 0
refused_as k (refused q) = same k q.number

abbrev pub refused_with : ℕ → ℕ → Part → ℕ
refused_with k n p = refused_as k (part_outcome n p)

-- ---- the form of a batch

-- word 7: the lanes of an edition, 0 before the first part
abbrev pub edition_right : List ℕ → Bool
edition_right b = elim (eqb (batch_at b 0) 0) [ true ↦ eqb (batch_at b 7) 0 | false ↦ known (batch_at b 7) ]

-- each total is at most what so many good parts can have, with m for n times their number: 32n bits, n lanes, 32 rounds, 32n empty rounds, and a
-- script of 32 rounds and 255 stages
abbrev pub totals_right : ℕ → List ℕ → Bool
totals_right m b = leb (batch_at b 2) (32 * m) && leb (batch_at b 3) m && leb (batch_at b 4) (32 * batch_at b 1) && leb (batch_at b 5) (32 * m) && leb (batch_at b 6) (5205 * m)

-- what words are a batch's: where they are not, it is 5
unfoldable pub batch_form : List ℕ → Bool
batch_form b = leb (batch_at b 0) most_parts && eqb (batch_at b 0) (batch_at b 1 + refused_below b 40) && edition_right b && totals_right (batch_at b 7 * batch_at b 1) b

-- a part's edition is that of the parts before it
abbrev pub same_edition : ℕ → List ℕ → Bool
same_edition n b = elim (eqb (batch_at b 0) 0) [ true ↦ true | false ↦ eqb (batch_at b 7) n ]

-- ---- what the call answers: 32, 29, 5, 28, 14, else what becomes of the part

-- "28 batch full, nothing added"
unfoldable pub call_number : ℕ → List ℕ → ℕ
call_number n b =
    elim (known n) [
      | false ↦ 29
      | true ↦ elim (batch_form b && same_edition n b) [
        | false ↦ 5
        | true ↦ elim (ltb (batch_at b 0) most_parts) [ false ↦ 28 | true ↦ elim (leb 48 (length b)) [ false ↦ 14 | true ↦ 0 ] ]
      ]
    ]

-- the refusal of a call, or what becomes of the part
abbrev pub called : ℕ → Answer Packed → Answer (Answer Packed)
called zero o = good o
called (suc k) o = refused (nowhere (suc k))

-- the lent room has r words
unfoldable pub feed_answer : ℕ → ℕ → Part → List ℕ → Answer (Answer Packed)
feed_answer r n p b = elim (leb 16384 r) [ false ↦ refused (nowhere 32) | true ↦ called (call_number n b) (part_outcome n p) ]

-- the batch then
unfoldable pub batch_after : ℕ → Part → Answer (Answer Packed) → List ℕ → List ℕ
batch_after n p (good o) b = fed_with n p o b
batch_after n p (refused q) b = b
