-- The search by halves over a set in form: its words do not fall, and where the word and the mask are not at the place that it ends at, they are
-- nowhere.
-- Assumes nothing.
use mathlib.Core.Path.{◌≡◌, refl, sym, ap, ◌∙◌}
use mathlib.Core.Bool.{Bool, true, false, ◌&&◌}
use mathlib.Core.Option.{Option, none, some}
use mathlib.Core.List.{List}
use mathlib.Core.Logic.{⊎_elim}
use Prim.Native.Nat.{ℕ, zero, suc, ◌+◌, ◌*◌, ◌/◌, ◌%◌, ◌^◌, ◌≤◌, ◌<◌}
use native.Mathlib.Numerals.{add-one}
use native.Mathlib.Omega.{arith}
use borrow.Author.Tests.{ltb-true, lt-ltb, le-ltb, le-leb, lt-leb, eq-eqb, ne_eqb}
use lib.Dec.{leb, ltb, eqb}
use lib.ListN.{length, get_or}
use Rattle.words.specs.Bit.{bit_at, pop}
use Rattle.words.proofs.BitLaws.{lt_or_ge, at_lt}
use Rattle.words.proofs.TestLaws.{some_not_none}
use Rattle.sort.specs.HalfSearch.{Monotone, least}
use Rattle.sort.proofs.HalfSearchLaws.{monotone_steps, least_between, search_found}
use Rattle.reads.specs.ReadSet.{Pair, pairs_of, broken}
use Rattle.reads.specs.Packing.{times}
use Rattle.reads.proofs.SetLaws.{mask_one}
use Rattle.reads_section.proofs.PairFormLaws.{brokenAt, bad_low, bad_word, bad_mask, good_pair}
use Rattle.reads_try.specs.TableLanes.{put_in_lane}
use Rattle.handed_lanes.specs.Handed.{pair_index}
use Rattle.handed_pairs.specs.HandedPair.{pair_found, fitting_pair, tabled}
use Rattle.handed_lanes.proofs.LaneWordLaws.{number_nowhere, pairs_count, pair_times, pair_number, found_pair}

-- the words of a set, by pair
abbrev pub word_at : List ℕ → ℕ → ℕ
word_at set p = get_or set (2 * p) 0

-- one pair that keeps the form
form_step : (set : List ℕ) (i low : ℕ) → 2 * i + 1 < length set → brokenAt set i low ≡ none → (low ≤ word_at set i) × (brokenAt set (i + 1) (word_at set i + 1) ≡ none)
form_step set i low h e =
    ⊎_elim
    (λ l. absurd (some_not_none (sym (bad_low set i low h l) ∙ e)))
    (λ l. ⊎_elim
    (λ k. ⊎_elim
    (λ m. (l, sym (good_pair set i low h l k m) ∙ e))
    (λ m. absurd (some_not_none (sym (bad_mask set i low h l k (omega arith)) ∙ e)))
    (lt_or_ge 0 (get_or set (2 * i + 1) 0)))
    (λ k. absurd (some_not_none (sym (bad_word set i low h l k) ∙ e)))
    (lt_or_ge (word_at set i % 2 ^ 31) (2 ^ 27)))
    (lt_or_ge (word_at set i) low)

module _ (set : List ℕ) (form : broken (pairs_of set) ≡ none) where
  form_at : (i : ℕ) → i < length set / 2 → brokenAt set (i + 1) (word_at set i + 1) ≡ none
  form_at zero h = (form_step set 0 0 (omega arith) form).1
  form_at (suc i) h =
      let before = rw (add-one i) at (form_at i (omega arith)) in
      (form_step set (suc i) (word_at set i + 1) (omega arith) before).1

  pub words_rise : Monotone (word_at set) (length set / 2)
  words_rise = monotone_steps (word_at set) (length set / 2) (λ i h. omega (arith, (form_step set (i + 1) (word_at set i + 1) (omega arith) (form_at i (omega arith))).0))

  -- ---- what the tests at the place say

  pub pair_here : (w m p : ℕ) → p < length set / 2 → word_at set p ≡ w → get_or set (2 * p + 1) 0 ≡ m → some p ≡ pair_found set w m
  pair_here w m p h ew em =
      let is : pair_index (pairs_of set) w m ≡ p = rw (ew, em) at (pair_number set form p h) in
      rw (lt-ltb (pair_index (pairs_of set) w m) (length set / 2) (omega arith), pair_found) (ap some (sym is))

  module _ (w m p : ℕ) (ends : p ≡ least (word_at set) (length set / 2) w) where
    -- it ends where the word stands, if it stands anywhere
    found-there : 0 < times w m (pairs_of set) → (p < length set / 2) × (word_at set p ≡ w)
    found-there h =
        let f = found_pair set form w m h in
        let k = pair_index (pairs_of set) w m in
        let is : word_at set k ≡ w = sym (ap (λ (q : Pair). q.word) f.1) in
        search_found (word_at set) (length set / 2) w p k words_rise (rw ends (least_between (word_at set) (length set / 2) w words_rise)) f.0 is

    nowhere : (0 < times w m (pairs_of set) → ⊥) → none ≡ pair_found set w m
    nowhere h =
        let z : times w m (pairs_of set) ≡ 0 = ⊎_elim (λ l. absurd (h l)) (λ l. omega arith) (lt_or_ge 0 (times w m (pairs_of set))) in
        rw (le-ltb (pair_index (pairs_of set) w m) (length set / 2) (omega (arith, number_nowhere (pairs_of set) w m z, pairs_count set form)), pair_found)

    pub past_none : length set / 2 ≤ p → none ≡ pair_found set w m
    past_none l = nowhere (λ h. absurd (omega (arith, (found-there h).0)))

    pub word_none : (word_at set p ≡ w → ⊥) → none ≡ pair_found set w m
    word_none d = nowhere (λ h. d (found-there h).1)

    pub mask_none : p < length set / 2 → (get_or set (2 * p + 1) 0 ≡ m → ⊥) → none ≡ pair_found set w m
    mask_none l d = nowhere (λ h.
        let is = (found-there h).1 in
        d (mask_one (pairs_of set) form w _ _ (rw is at (pair_times set form p l)) h))

  -- ---- whether a pair may stand

  module _ (seen : List ℕ) (b w m : ℕ) where
    abbrev k : ℕ
    k = pair_index (pairs_of set) w m

    abbrev picked : Bool → Option ℕ
    picked t = elim t [ true ↦ some k | false ↦ none ]

    abbrev tests : Bool → Bool → Bool → Bool
    tests x y z = (x && y) && z

    pub fit_foreign : pair_found set w m ≡ none → none ≡ fitting_pair set seen b w m
    unfolding fitting_pair
    fit_foreign e = go (ltb k (length set / 2)) refl
      where
        go : (t : Bool) → ltb k (length set / 2) ≡ t → none ≡ fitting_pair set seen b w m
        go true t = absurd (some_not_none (rw (t, pair_found) at e))
        go false t = sym (ap (λ (t : Bool). picked (tests t (eqb (bit_at seen k) 0) (leb (b + pop m) 32))) t)

    module _ (p : ℕ) (found : pair_found set w m ≡ some p) where
      pub found_is : (p ≡ k) × (p < length set / 2)
      found_is = go (ltb k (length set / 2)) refl
        where
          go : (t : Bool) → ltb k (length set / 2) ≡ t → (p ≡ k) × (p < length set / 2)
          go true t =
              let s : ◌≡◌ {A = Option ℕ} (some k) (some p) = rw (t, pair_found) at found in
              let is : p ≡ k = cc in
              (is, omega (arith, is, ltb-true k (length set / 2) t))
          go false t = let s : ◌≡◌ {A = Option ℕ} none (some p) = rw (t, pair_found) at found in absurd (some_not_none (sym s))

      number : p ≡ k
      number = found_is.0

      in_set : ltb k (length set / 2) ≡ true
      in_set = lt-ltb _ _ (omega (arith, found_is.0, found_is.1))

      first-test : fitting_pair set seen b w m ≡ picked (tests true (eqb (bit_at seen k) 0) (leb (b + pop m) 32))
      unfolding fitting_pair
      first-test = ap (λ (t : Bool). picked (tests t (eqb (bit_at seen k) 0) (leb (b + pop m) 32))) in_set

      pub fit_marked : (x : ℕ) → x ≡ bit_at seen p → x ≡ 1 → none ≡ fitting_pair set seen b w m
      fit_marked x ex e =
          let bit_is : bit_at seen k ≡ 1 = ap (bit_at seen) (sym number) ∙ sym ex ∙ e in
          sym (first-test ∙ ap (λ (t : Bool). picked (tests true t (leb (b + pop m) 32))) (ne_eqb (bit_at seen k) 0 (λ (z : bit_at seen k ≡ 0). omega arith)))

      module _ (x : ℕ) (ex : x ≡ bit_at seen p) (unmarked : x ≡ 1 → ⊥) where
        second-test : fitting_pair set seen b w m ≡ picked (leb (b + pop m) 32)
        second-test =
            let bit_is : bit_at seen k ≡ x = ap (bit_at seen) (sym number) ∙ sym ex in
            let zero_is : bit_at seen k ≡ 0 = omega (arith, at_lt seen k) in
            first-test ∙ ap (λ (t : Bool). picked (tests true t (leb (b + pop m) 32))) (eq-eqb (bit_at seen k) 0 zero_is)

        module _ (c : ℕ) (ec : c ≡ pop m) where
          pub fit_over : 32 < b + c → none ≡ fitting_pair set seen b w m
          fit_over h = sym (second-test ∙ ap picked (lt-leb (b + pop m) 32 (omega arith)))

          pub fit_fits : b + c ≤ 32 → some p ≡ fitting_pair set seen b w m
          fit_fits h = ap some number ∙ sym (second-test ∙ ap picked (le-leb (b + pop m) 32 (omega arith)))

-- ---- the table with a pair more

pub tabled_in : (n : ℕ) (table : List ℕ) (i r p : ℕ) → i < n → put_in_lane table i r p ≡ tabled n table i r p
unfolding tabled
tabled_in n table i r p h = sym (ap (λ (t : Bool). elim t [ true ↦ put_in_lane table i r p | false ↦ table ]) (lt-ltb i n h))

pub tabled_out : (n : ℕ) (table : List ℕ) (i r p : ℕ) → n ≤ i → table ≡ tabled n table i r p
unfolding tabled
tabled_out n table i r p h = sym (ap (λ (t : Bool). elim t [ true ↦ put_in_lane table i r p | false ↦ table ]) (le-ltb i n h))
