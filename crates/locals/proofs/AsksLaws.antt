-- What a set asks for, by the numbers of its pairs: a set in form has a word once, so the pair that is found for a word decides.
-- Assumes nothing.
use mathlib.Core.Path.{◌≡◌, refl, sym, ap, ◌∙◌}
use mathlib.Core.Bool.{Bool, true, false, ◌&&◌, and-eq-true_iff}
use mathlib.Core.Option.{none}
use mathlib.Core.List.{List, [], ◌∷◌}
use mathlib.Core.Logic.{⊎_elim}
use Prim.Native.Nat.{ℕ, zero, suc, ◌+◌, ◌*◌, ◌/◌, ◌^◌, ◌≤◌, ◌<◌}
use native.Mathlib.Omega.{arith}
use borrow.Author.Tests.{eq-eqb, eqb-true}
use lib.Bits.{bit_and, and_mask}
use lib.Dec.{eqb}
use lib.ListN.{length, get_or}
use Rattle.words.specs.Bit.{bit}
use Rattle.words.proofs.BitLaws.{lt_or_ge, bit_zero, bit_above}
use Rattle.reads.specs.ReadSet.{pairs_from, pairs_of, broken}
use Rattle.reads.proofs.SetLaws.{times_at}
use Rattle.reads.proofs.LocalLaws.{Requested}
use Rattle.sort.specs.HalfSearch.{least}
use Rattle.reads_try.specs.TableLanes.{pair_at}
use Rattle.reads_try.proofs.SetPairLaws.{pairs_length, pairs_at}
use Rattle.reads_local.specs.Bases.{pair_word_of}
use Rattle.reads_local.proofs.LocalPositionLaws.{word_found}
use Rattle.locals.specs.LocalAnswer.{asks_for}

-- pair e has word w, and bit k in its mask
pub record AsksAt (ws : List ℕ) (w k : ℕ) : Type 0 where
  pub e : ℕ
  pub inside : e < length ws / 2
  pub word : get_or ws (2 * e) 0 ≡ w
  pub set : bit (get_or ws (2 * e + 1) 0) k ≡ 1

pub asks_at : (i : ℕ) (ws : List ℕ) (w k e : ℕ) → e < length ws / 2 → get_or ws (2 * e) 0 ≡ w → bit (get_or ws (2 * e + 1) 0) k ≡ 1 → asks_for (pairs_from i ws) w k ≡ true
unfolding asks_for pairs_from
asks_at i [] w k e h a b = absurd (omega arith)
asks_at i (v ∷ []) w k e h a b = absurd (omega arith)
asks_at i (v ∷ m ∷ ws) w k zero h a b = rw (eq-eqb v w a, eq-eqb (bit m k) 1 b, asks_for)
asks_at i (v ∷ m ∷ ws) w k (suc e) h a b = go (eqb v w && eqb (bit m k) 1) refl (asks_at (i + 1) ws w k e (omega arith) (rw two at a) (rw more at b))
  where
    two : 2 * suc e ≡ suc (suc (2 * e))
    two = omega arith

    more : 2 * suc e + 1 ≡ suc (suc (2 * e + 1))
    more = omega arith

    go : (t : Bool) → eqb v w && eqb (bit m k) 1 ≡ t → asks_for (pairs_from (i + 1) ws) w k ≡ true → asks_for (pairs_from i (v ∷ m ∷ ws)) w k ≡ true
    go true t r = rw (t, asks_for)
    go false t r = rw (t, asks_for) r

pub asked_at : (i : ℕ) (ws : List ℕ) (w k : ℕ) → asks_for (pairs_from i ws) w k ≡ true → AsksAt ws w k
unfolding asks_for pairs_from
asked_at i [] w k h =
    let z : ◌≡◌ {A = ℕ} 0 1 = cc in
    absurd (omega arith)
asked_at i (v ∷ []) w k h = go (eqb v w && eqb (bit 0 k) 1) refl
  where
    go : (t : Bool) → eqb v w && eqb (bit 0 k) 1 ≡ t → AsksAt (v ∷ []) w k
    go true t =
        let a = (and-eq-true_iff (eqb v w) (eqb (bit 0 k) 1)).0 t in
        absurd (omega (arith, eqb-true (bit 0 k) 1 a.1, bit_zero k))
    go false t =
        let q : false ≡ true = rw (t, asks_for) at h in
        let z : ◌≡◌ {A = ℕ} 0 1 = cc in
        absurd (omega arith)
asked_at i (v ∷ m ∷ ws) w k h = go (eqb v w && eqb (bit m k) 1) refl (asked_at (i + 1) ws w k)
  where
    go : (t : Bool) → eqb v w && eqb (bit m k) 1 ≡ t → (asks_for (pairs_from (i + 1) ws) w k ≡ true → AsksAt ws w k) → AsksAt (v ∷ m ∷ ws) w k
    go true t f =
        let a = (and-eq-true_iff (eqb v w) (eqb (bit m k) 1)).0 t in
        record { e = 0; inside = omega arith; word = eqb-true v w a.0; set = eqb-true (bit m k) 1 a.1 }
    go false t f =
        let r = f (rw (t, asks_for) at h) in
        let two : 2 * suc r.e ≡ suc (suc (2 * r.e)) = omega arith in
        let more : 2 * suc r.e + 1 ≡ suc (suc (2 * r.e + 1)) = omega arith in
        record { e = suc r.e; inside = omega (arith, r.inside); word = rw two r.word; set = rw more r.set }

-- it stands in the set
pub asked_requested : (ws : List ℕ) (w k : ℕ) → AsksAt ws w k → Requested (pairs_of ws) w k
asked_requested ws w k a =
    let at : get_or (pairs_of ws) a.e (pair_at ws 0) ≡ pair_at ws a.e = pairs_at ws a.e (pair_at ws 0) a.inside in
    let there = rw at at (times_at (pairs_of ws) a.e (pair_at ws 0) (omega (arith, pairs_length 0 ws, a.inside))) in
    record { mask = get_or ws (2 * a.e + 1) 0; stands = rw a.word at there; set = a.set }

-- a bit that is asked for is one of 32
pub asks_low : (ws : List ℕ) (w k : ℕ) → ((i : ℕ) → get_or ws i 0 < 2 ^ 32) → asks_for (pairs_of ws) w k ≡ true → k < 32
asks_low ws w k fits h =
    let a = asked_at 0 ws w k h in
    ⊎_elim (λ l. l) (λ l. absurd (omega (arith, a.set, bit_above 32 k (fits (2 * a.e + 1)) l))) (lt_or_ge k 32)

untrue : (b : Bool) → (b ≡ true → ⊥) → false ≡ b
untrue true h = absurd (h refl)
untrue false h = refl

-- e is where a search for the word ends
module _ (ws : List ℕ) (form : broken (pairs_of ws) ≡ none) (w k e : ℕ) (found : e ≡ least (pair_word_of ws) (length ws / 2) w) where
  one : (a : AsksAt ws w k) → e ≡ a.e
  one a = found ∙ word_found ws form w a.e a.inside a.word

  pub past_all : length ws / 2 ≤ e → false ≡ asks_for (pairs_of ws) w k
  past_all h = untrue (asks_for (pairs_of ws) w k) (λ t. let a = asked_at 0 ws w k t in omega (arith, one a, a.inside))

  pub other_word : (get_or ws (2 * e) 0 ≡ w → ⊥) → false ≡ asks_for (pairs_of ws) w k
  other_word h = untrue (asks_for (pairs_of ws) w k) (λ t. let a = asked_at 0 ws w k t in h (rw (one a) a.word))

  its-bit : e < length ws / 2 → get_or ws (2 * e) 0 ≡ w → eqb (bit (get_or ws (2 * e + 1) 0) k) 1 ≡ asks_for (pairs_of ws) w k
  its-bit h is = go (eqb (bit (get_or ws (2 * e + 1) 0) k) 1) refl
    where
      go : (t : Bool) → eqb (bit (get_or ws (2 * e + 1) 0) k) 1 ≡ t → eqb (bit (get_or ws (2 * e + 1) 0) k) 1 ≡ asks_for (pairs_of ws) w k
      go true t = t ∙ sym (asks_at 0 ws w k e h is (eqb-true _ 1 t))
      go false t = t ∙ untrue (asks_for (pairs_of ws) w k)
          (λ s.
          let a = asked_at 0 ws w k s in
          let q : true ≡ false = sym (eq-eqb (bit (get_or ws (2 * e + 1) 0) k) 1 (rw (one a) a.set)) ∙ t in
          let z : ◌≡◌ {A = ℕ} 0 1 = cc in
          omega arith)

  -- as the code takes it out of the mask
  pub mask_bit : e < length ws / 2 → get_or ws (2 * e) 0 ≡ w → eqb (bit_and (get_or ws (2 * e + 1) 0 / 2 ^ k) 1) 1 ≡ asks_for (pairs_of ws) w k
  unfolding bit
  mask_bit h is = ap (λ (x : ℕ). eqb x 1) (and_mask (get_or ws (2 * e + 1) 0 / 2 ^ k) 1) ∙ its-bit h is

-- a bit above 31
pub too_high : (ws : List ℕ) (w k : ℕ) → ((i : ℕ) → get_or ws i 0 < 2 ^ 32) → 31 < k → false ≡ asks_for (pairs_of ws) w k
too_high ws w k fits h = untrue (asks_for (pairs_of ws) w k) (λ t. omega (arith, asks_low ws w k fits t))
