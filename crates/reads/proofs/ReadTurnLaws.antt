-- The bit that the read turn leaves at a local position is the requested bit of the state. A round moves what stood in the lane up by its mask's
-- bits and puts its own below, so that a bit of round r ends up above all bits of later rounds.
-- Assumes nothing.
use mathlib.Core.Path.{◌≡◌, refl, sym, ap, ap₂, ◌∙◌}
use mathlib.Core.Bool.{Bool, true, false}
use mathlib.Core.Option.{none, some}
use mathlib.Core.List.{List, [], ◌∷◌}
use Prim.Native.Nat.{ℕ, zero, suc, ◌+◌, ◌-◌, ◌*◌, ◌/◌, ◌%◌, ◌^◌, ◌≤◌, ◌<◌}
use native.Mathlib.Nat.{add-zero, zero-add, add-suc, suc-add, not-suc-le-zero, le_of_suc-le-suc, mul-le-mul_right}
use native.Mathlib.Numerals.{one-add}
use native.Mathlib.Omega.{arith}
use borrow.Author.Tests.{eqb-true, eqb-false, eq-eqb, ne_eqb}
use lib.Arith.{digits_lt}
use lib.Count.{ones}
use lib.Dec.{eqb}
use lib.ListN.{length, get_or}
use lib.Pow.{pow-add, shr-shr, shr_le}
use Rattle.words.specs.Bit.{bit, bit_at, pop_in, pop}
use Rattle.words.proofs.BitLaws.{bit_zero, bit_first, bit_suc, bit_high, bit_above}
use Rattle.words.specs.Sum.{sum_to}
use Rattle.words.proofs.SumLaws.{sum_ext}
use Rattle.words.proofs.PopLaws.{pop_in-ones, pop_ones}
use Rattle.reads.specs.ReadSet.{Pair, total, broken}
use Rattle.reads.specs.Search.{Lane, longest}
use Rattle.reads.specs.ReadSection.{read_section}
use Rattle.reads.specs.Local.{mask_in, later, local_of}
use Rattle.reads.specs.Packing.{times, Packing}
use Rattle.reads.specs.ReadTurn.{append_bit, appended, lane_word}
use Rattle.reads.proofs.RoundCountLaws.{longest_ge}
use Rattle.reads.proofs.SectionWordLaws.{section_word, section_mask}
use Rattle.reads.proofs.LocalLaws.{local_in, local_in_lem, pop_zero, Requested, Located, located}

-- ---- one round

pub append_set : (w m a : ℕ) → m % 2 ≡ 1 → append_bit w m a ≡ a * 2 + w % 2
append_set w m a e = rw (eq-eqb (m % 2) 1 e, append_bit)

pub append_clear : (w m a : ℕ) → (m % 2 ≡ 1 → ⊥) → append_bit w m a ≡ a
append_clear w m a e = rw (ne_eqb (m % 2) 1 e, append_bit)

-- an empty mask appends nothing, whatever the word is
pub appended_none : (d w a : ℕ) → appended d w 0 a ≡ a
unfolding appended
appended_none zero w a = refl
appended_none (suc d) w a = appended_none d (w / 2) a

-- what was there is above, and what came is below it
pub record BitsAbove (x a o : ℕ) : Type 0 where
  pub rest : ℕ
  pub small : rest < 2 ^ o
  pub is : x ≡ a * 2 ^ o + rest

regroup : (a b p r : ℕ) → (a * 2 + b) * p + r ≡ a * (2 * p) + (b * p + r)
regroup a b p r = omega arith

above_one : (x a b o : ℕ) → b < 2 → BitsAbove x (a * 2 + b) o → BitsAbove x a (1 + o)
above_one x a b o h up =
    let p : 2 ^ (1 + o) ≡ 2 * 2 ^ o = pow-add 2 1 o in
    let low : b * 2 ^ o ≤ 1 * 2 ^ o = mul-le-mul_right (2 ^ o) (le_of_suc-le-suc h) in
    record { rest = b * 2 ^ o + up.rest; small = omega (arith, up.small); is = up.is ∙ rw p (regroup a b (2 ^ o) up.rest) }

pub appended_above : (d w m a : ℕ) → BitsAbove (appended d w m a) a (pop_in d m)
unfolding appended pop_in
appended_above zero w m a = record { rest = 0; small = omega arith; is = omega arith }
appended_above (suc d) w m a = go (eqb (m % 2) 1) refl (appended_above d (w / 2) (m / 2))
  where
    go : (t : Bool) → eqb (m % 2) 1 ≡ t → ((a : ℕ) → BitsAbove (appended d (w / 2) (m / 2) a) a (pop_in d (m / 2)))
        → BitsAbove (appended d (w / 2) (m / 2) (elim t [ true ↦ a * 2 + w % 2 | false ↦ a ])) a (m % 2 + pop_in d (m / 2))
    go true t up = rw (eqb-true (m % 2) 1 t) (above_one _ a (w % 2) _ (omega arith) (up (a * 2 + w % 2)))
    go false t up =
        let e : m % 2 + pop_in d (m / 2) ≡ pop_in d (m / 2) = even (m % 2) (omega arith) (eqb-false (m % 2) 1 t) in
        rw e (up a)
      where
        even : (b : ℕ) → b < 2 → (b ≡ 1 → ⊥) → b + pop_in d (m / 2) ≡ pop_in d (m / 2)
        even zero h n = zero-add (pop_in d (m / 2))
        even (suc b) h n = absurd (n (omega arith))

-- bit k of the word, where the mask has it, stands below the mask's higher bits
appended_bit : (d k w m a : ℕ) → m < 2 ^ d → bit m k ≡ 1 → bit (appended d w m a) (ones (m / 2 ^ (k + 1))) ≡ bit w k
unfolding appended
appended_bit zero k w m a h e =
    let z : m ≡ 0 = omega arith in
    let f : bit 0 k ≡ 1 = rw z at e in
    absurd (omega (arith, bit_zero k))
appended_bit (suc d) zero w m a h e =
    let o : m % 2 ≡ 1 = sym (bit_first m) ∙ e in
    let up = appended_above d (w / 2) (m / 2) (a * 2 + w % 2) in
    let n : ones (m / 2) ≡ pop_in d (m / 2) = sym (pop_in-ones d (m / 2) (omega arith)) in
    let lowest : (a * 2 + w % 2) % 2 ≡ w % 2 = omega arith in
    ap (λ (x : ℕ). bit (appended d (w / 2) (m / 2) x) (ones (m / 2))) (append_set w m a o)
    ∙ rw (n, up.is) (ap (bit _) (sym (add-zero (pop_in d (m / 2)))) ∙ bit_high (a * 2 + w % 2) (pop_in d (m / 2)) 0 up.small ∙ bit_first _ ∙ lowest ∙ sym (bit_first w))
appended_bit (suc d) (suc k) w m a h e =
    let cut : m / 2 ^ (suc k + 1) ≡ m / 2 / 2 ^ (k + 1) = sym (shr-shr m 1 (k + 1) ∙ ap (λ (x : ℕ). m / 2 ^ x) (omega arith)) in
    rw cut (appended_bit d k (w / 2) (m / 2) _ (omega arith) (sym (bit_suc m k) ∙ e) ∙ sym (bit_suc w k))

-- ---- the rounds of a lane: W r is the state word of round r, M r its mask

module _ (W M : ℕ → ℕ) where
  pub lane_lt : (R : ℕ) → lane_word W M R < 2 ^ sum_to (λ (r : ℕ). pop (M r)) R
  unfolding lane_word sum_to
  lane_lt zero = omega arith
  lane_lt (suc R) =
      let up = appended_above 32 (W R) (M R) (lane_word W M R) in
      rw (up.is, pow-add) (digits_lt (lane_lt R) up.small)

  -- n rounds move what stood there up by their masks' bits
  lane-up : (r n x : ℕ) → bit (lane_word W M (r + n)) (sum_to (λ (q : ℕ). pop (M (r + q))) n + x) ≡ bit (lane_word W M r) x
  unfolding lane_word sum_to
  lane-up r zero x = rw (add-zero r, zero-add x)
  lane-up r (suc n) x =
      let up = appended_above 32 (W (r + n)) (M (r + n)) (lane_word W M (r + n)) in
      let before = sum_to (λ (q : ℕ). pop (M (r + q))) n in
      let e : before + pop (M (r + n)) + x ≡ pop (M (r + n)) + (before + x) = omega arith in
      rw (add-suc r n, e, up.is) (bit_high (lane_word W M (r + n)) (pop (M (r + n))) (before + x) up.small ∙ lane-up r n x)

  pub lane_bit : (r n k : ℕ) → M r < 2 ^ 32 → bit (M r) k ≡ 1
      → bit (lane_word W M (suc r + n)) (sum_to (λ (q : ℕ). pop (M (suc r + q))) n + pop (M r / 2 ^ (k + 1))) ≡ bit (W r) k
  unfolding lane_word
  lane_bit r n k h e =
      let m = M r / 2 ^ (k + 1) in
      let p : pop m ≡ ones m = pop_ones m (omega (arith, shr_le (M r) (k + 1))) in
      lane-up (suc r) n (pop m) ∙ rw p (appended_bit 32 k (W r) (M r) (lane_word W M r) h e)

-- ---- the same sums over a lane of pairs

sum_first : (f : ℕ → ℕ) (n : ℕ) → sum_to f (suc n) ≡ f 0 + sum_to (λ (x : ℕ). f (suc x)) n
unfolding sum_to
sum_first f zero = omega arith
sum_first f (suc n) = omega (arith, sum_first f n)

pub sum-total : (l : Lane) (n : ℕ) → length l ≤ n → sum_to (λ (x : ℕ). pop (mask_in l x)) n ≡ total l
unfolding sum_to mask_in total
sum-total [] zero h = refl
sum-total [] (suc n) h = omega (arith, sum-total [] n (omega arith), pop_zero)
sum-total (p ∷ l) zero h = absurd (not-suc-le-zero h)
sum-total (p ∷ l) (suc n) h = sum_first (λ (x : ℕ). pop (mask_in (p ∷ l) x)) n ∙ ap (λ (x : ℕ). pop p.mask + x) (sum-total l n (le_of_suc-le-suc h))

later_mask : (l : Lane) (r x : ℕ) → mask_in (later l r) x ≡ mask_in l (suc r + x)
unfolding mask_in later
later_mask [] r x = refl
later_mask (p ∷ l) zero x = rw (one-add x, mask_in)
later_mask (p ∷ l) (suc r) x = later_mask l r x ∙ rw (suc-add (suc r) x, mask_in)

later_length : (l : Lane) (r : ℕ) → length (later l r) ≤ length l - suc r
unfolding later
later_length [] r = omega arith
later_length (p ∷ l) zero = omega arith
later_length (p ∷ l) (suc r) = omega (arith, later_length l r)

-- ---- a lane of pairs, read in R rounds with its masks

module _ (W M : ℕ → ℕ) (R : ℕ) (l : Lane) (masks : (r : ℕ) → r < R → M r ≡ mask_in l r) (rounds : length l ≤ R) where
  pub read_lt : lane_word W M R < 2 ^ total l
  read_lt =
      let e : sum_to (λ (r : ℕ). pop (M r)) R ≡ total l = sum_ext _ _ R (λ r h. ap pop (masks r h)) ∙ sum-total l R rounds in
      rw (← e) (lane_lt W M R)

  -- "Unused lane bits are 0."
  pub read_unused : (x : ℕ) → total l ≤ x → bit (lane_word W M R) x ≡ 0
  read_unused x h = bit_above (total l) x read_lt h

  -- a requested bit is at its local position
  pub read_bit : (r k : ℕ) → r < length l → mask_in l r < 2 ^ 32 → bit (mask_in l r) k ≡ 1 → bit (lane_word W M R) (local_in l r k) ≡ bit (W r) k
  read_bit r k h small set =
      let n = R - suc r in
      let all : suc r + n ≡ R = omega arith in
      let here : M r ≡ mask_in l r = masks r (omega arith) in
      let after : total (later l r) ≡ sum_to (λ (q : ℕ). pop (M (suc r + q))) n =
      sym (sum-total (later l r) n (omega (arith, later_length l r))) ∙ sum_ext _ _ n (λ x g. ap pop (later_mask l r x ∙ sym (masks (suc r + x) (omega arith)))) in
      ap₂ (λ (x y : ℕ). bit (lane_word W M x) y) (sym all) (local_in_lem l r k)
      ∙ rw (after, ← here) (lane_bit W M r n k (rw here small) (rw here set))

-- ---- all lanes of a packing

-- The words of a read turn: W i r and M i r are the state word and the mask of lane i in round r, as the read section has them; state w is the state
-- word that the section's word w names.
pub record ReadBy (n : ℕ) (lanes : List Lane) (state : ℕ → ℕ) (W M : ℕ → ℕ → ℕ) (row : List ℕ) : Type 0 where
  pub words : (i r : ℕ) → i < n → r < longest lanes → W i r ≡ state (get_or (read_section lanes) (2 * n * r + 2 * i) 0)
  pub masks : (i r : ℕ) → i < n → r < longest lanes → M i r ≡ get_or (read_section lanes) (2 * n * r + 2 * i + 1) 0
  pub left : (i : ℕ) → i < n → get_or row i 0 ≡ lane_word (W i) (M i) (longest lanes)

module _ (n : ℕ) (lanes : List Lane) (wide : length lanes ≡ n) (state : ℕ → ℕ) (W M : ℕ → ℕ → ℕ) (row : List ℕ) (turn : ReadBy n lanes state W M row) where
  lane-masks : (i : ℕ) → i < n → (r : ℕ) → r < longest lanes → M i r ≡ mask_in (get_or lanes i []) r
  lane-masks i h r l = turn.masks i r h l ∙ section_mask n lanes wide r i h

  -- a located bit is, at its local position, the bit of the state
  pub read_located : (w k p : ℕ) → Located n lanes w k → local_of lanes w k ≡ some p → bit_at row p ≡ bit (state w) k
  unfolding bit_at
  read_located w k p a e =
      let i = a.lane in
      let l = get_or lanes i [] in
      let r = a.round in
      let s : some (32 * i + local_in l r k) ≡ some p = sym a.local ∙ e in
      let at : 32 * i + local_in l r k ≡ p = cc in
      let lane : p / 32 ≡ i = omega (arith, a.in_lane, a.thin) in
      let place : p % 32 ≡ local_in l r k = omega (arith, a.in_lane, a.thin) in
      let long = longest_ge lanes i in
      let value : W i r ≡ state w = turn.words i r a.lane_there (omega (arith, a.round_there)) ∙ ap state (section_word n lanes wide r i a.lane_there ∙ a.word) in
      rw (lane, place, turn.left i a.lane_there)
      (read_bit (W i) (M i) (longest lanes) l (lane-masks i a.lane_there) long r k a.round_there a.small a.set ∙ ap (λ (x : ℕ). bit x k) value)

-- The read turn of a packed set puts each requested bit at its local position.
pub read_requested : (n : ℕ) (ps : List Pair) (lanes : List Lane) → Packing n ps lanes → broken ps ≡ none → ((w m : ℕ) → 0 < times w m ps → m < 2 ^ 32)
    → (state : ℕ → ℕ) (W M : ℕ → ℕ → ℕ) (row : List ℕ) → ReadBy n lanes state W M row
    → (w k p : ℕ) → Requested ps w k → local_of lanes w k ≡ some p → bit_at row p ≡ bit (state w) k
read_requested n ps lanes packing form small state W M row turn w k p b e =
    read_located n lanes packing.wide state W M row turn w k p (located n ps lanes packing form small w k b) e
