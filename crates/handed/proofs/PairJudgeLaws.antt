-- The pairs handed in, one after the other: what is left to judge from here on ends as the whole does, and what was judged stands in the table and in
-- the marks.
-- Assumes nothing.
use mathlib.Core.Path.{◌≡◌, refl, sym, ap, ◌∙◌}
use mathlib.Core.Bool.{Bool, true, false, ◌&&◌}
use mathlib.Core.Option.{Option, none, some}
use mathlib.Core.List.{List, [], ◌∷◌, ◌++◌, append_assoc, append-nil}
use mathlib.Core.Logic.{⊎_elim}
use Prim.Native.Nat.{ℕ, zero, suc, ◌+◌, ◌*◌, ◌/◌, ◌%◌, ◌^◌, max, ◌≤◌, ◌<◌}
use native.Mathlib.Nat.{add-zero}
use native.Mathlib.Numerals.{add-one}
use native.Mathlib.Decide.{ℕ_discrete}
use native.Mathlib.Omega.{arith}
use borrow.Author.Tests.{lt-ltb, le-ltb, eq-eqb, ne_eqb}
use lib.Dec.{leb, ltb, eqb}
use lib.ListN.{length, get_or, set, drop, replicate, length-append, length-set, length-replicate, drop_of_length-le}
use lib.Seq.{drop-cons, set-append_seam, get_or-append_seam, get_or-set_same, get_or-set_other, set_out}
use Rattle.words.specs.Bit.{bit_at, set_bit, pop}
use Rattle.words.proofs.BitLaws.{lt_or_ge, bit_zero, at_set-bit, set-bit_length}
use Rattle.words.proofs.ListLaws.{zeros_at}
use Rattle.words.proofs.TestLaws.{some_not_none}
use Rattle.words.proofs.PopLaws.{pop_some}
use Rattle.reads.specs.ReadSet.{Pair, bits, pairs_of, broken}
use Rattle.reads.specs.Search.{Lane, joined, push}
use Rattle.reads.specs.Packing.{times}
use Rattle.reads.proofs.PackingLaws.{times_nil, times_append}
use Rattle.reads.proofs.SetLaws.{times_here}
use Rattle.reads_try.specs.LaneTable.{table_of}
use Rattle.reads_try.specs.TableLanes.{pair_at, put_in_lane}
use Rattle.reads_try.proofs.LaneTableLaws.{table_put, table_empty, table_length}
use Rattle.std.specs.Prelude.{Some, None, Ok, Err}
use Rattle.std.specs.declared.option.Option as code
use Rattle.std.specs.declared.result.Result.{Result}
use Rattle.words.specs.Found.{item_of}
use Rattle.words.proofs.FoundLaws.{item_some, item_none}
use Rattle.handed.specs.declared.fill.Misplaced.{Misplaced}
use Rattle.handed_lanes.specs.Handed.{pair_index, pair_for, in_front, pair_more, lanes_in, belongs, bad_from, bad_pair}
use Rattle.handed_pairs.specs.HandedPair.{fitting_pair, tabled}
use Rattle.handed.specs.Fill.{judged_of, PairsFilled}
use Rattle.handed_lanes.proofs.FaultLaws.{times_one, one_is, Belongs, belongs_is, bad_next, bad_here}
use Rattle.handed_lanes.proofs.LaneWordLaws.{number_nowhere, more_end, more_pair, pairs_count, pair_number, found_pair}

-- ---- what is left of the lanes: the first of them has `place` pairs already, of b bits

-- a lane is through, and the lanes behind it come next
abbrev after : List Pair → List Pair → ℕ → List Lane → Option ℕ → Option ℕ
after ps stood i ls o = elim o [ some x ↦ some x | none ↦ bad_pair ps stood (i + 1) ls ]

abbrev rest_bad : List Pair → List Pair → ℕ → ℕ → ℕ → List Lane → Option ℕ
rest_bad ps stood b i r [] = none
rest_bad ps stood b i r (l ∷ ls) = after ps (stood ++ l) i ls (bad_from ps stood b (64 * i + r) l)

module _ (ps : List Pair) where
  rest-start : (ls : List Lane) → rest_bad ps [] 0 0 0 ls ≡ bad_pair ps [] 0 ls
  unfolding bad_pair
  rest-start [] = refl
  rest-start (l ∷ ls) = refl

  rest_end : (stood : List Pair) (b i r : ℕ) (ls : List Lane) → rest_bad ps stood b i r ([] ∷ ls) ≡ rest_bad ps stood 0 (i + 1) 0 ls
  unfolding bad_pair bad_from
  rest_end stood b i r [] = refl
  rest_end stood b i r (l ∷ ls) =
      let x : 64 * (i + 1) ≡ 64 * (i + 1) + 0 = omega arith in
      ap (λ (s : List Pair). bad_pair ps s (i + 1) (l ∷ ls)) (append-nil stood) ∙ ap (λ (y : ℕ). after ps (stood ++ l) (i + 1) ls (bad_from ps stood 0 y l)) x

  module _ (stood : List Pair) (b i r : ℕ) (p : Pair) where
    rest-pair : (ls : List Lane) → belongs ps stood b p ≡ true → rest_bad ps stood b i r (in_front p ls) ≡ rest_bad ps (stood ++ p ∷ []) (b + bits p) i (r + 1) ls
    unfolding in_front bad_pair bad_from
    rest-pair [] t = ap (after ps (stood ++ p ∷ []) i []) (bad_next ps stood b (64 * i + r) p [] t)
    rest-pair (l ∷ ls) t =
        let x : 64 * i + r + 1 ≡ 64 * i + (r + 1) = omega arith in
        let rest : ℕ → Option ℕ = λ y. bad_from ps (stood ++ p ∷ []) (b + bits p) y l in
        ap (after ps (stood ++ p ∷ l) i ls) (bad_next ps stood b (64 * i + r) p l t)
        ∙ ap (λ (s : List Pair). after ps s i ls (rest (64 * i + r + 1))) (sym (append_assoc stood (p ∷ []) l))
        ∙ ap (λ (y : ℕ). after ps ((stood ++ p ∷ []) ++ l) i ls (rest y)) x

    rest-bad : (ls : List Lane) → belongs ps stood b p ≡ false → rest_bad ps stood b i r (in_front p ls) ≡ some (64 * i + r)
    unfolding in_front
    rest-bad [] t = ap (after ps (stood ++ p ∷ []) i []) (bad_here ps stood b (64 * i + r) p [] t)
    rest-bad (l ∷ ls) t = ap (after ps (stood ++ p ∷ l) i ls) (bad_here ps stood b (64 * i + r) p l t)

joined_front : (p : Pair) (ls : List Lane) → joined (in_front p ls) ≡ p ∷ joined ls
unfolding in_front joined
joined_front p [] = refl
joined_front p (l ∷ ls) = refl

-- how many lanes are left: the first counts where it has pairs, also if nothing is left of it
abbrev left_lanes : ℕ → ℕ → ℕ
left_lanes zero k = k
left_lanes (suc r) k = max 1 k

left_end : (r k : ℕ) → left_lanes r (suc k) ≡ suc k
left_end zero k = refl
left_end (suc r) k = omega arith

left_open : (r : ℕ) → 0 < r → left_lanes r 0 ≡ 1
left_open zero h = absurd (omega arith)
left_open (suc r) h = refl

left_closed : (r : ℕ) → r ≤ 0 → left_lanes r 0 ≡ 0
left_closed zero h = refl
left_closed (suc r) h = absurd (omega arith)

left_pair : (r : ℕ) (p : Pair) (ls : List Lane) → left_lanes r (length (in_front p ls)) ≡ left_lanes (r + 1) (length ls)
unfolding in_front
left_pair zero p [] = refl
left_pair zero p (l ∷ ls) = omega arith
left_pair (suc r) p [] = rw add-one (omega arith)
left_pair (suc r) p (l ∷ ls) = rw add-one

-- ---- the lanes as the table gets them: pair by pair behind those of lane i

abbrev push_all : List Lane → ℕ → Lane → List Lane
push_all ls i [] = ls
push_all ls i (p ∷ l) = push_all (push ls i p) i l

abbrev laid : List Lane → ℕ → List Lane → List Lane
laid ls i [] = ls
laid ls i (l ∷ rest) = laid (push_all ls i l) (i + 1) rest

laid_front : (ls : List Lane) (i : ℕ) (p : Pair) (rest : List Lane) → laid ls i (in_front p rest) ≡ laid (push ls i p) i rest
unfolding in_front
laid_front ls i p [] = refl
laid_front ls i p (l ∷ rest) = refl

push_at : (acc : List Lane) (c : Lane) (rest : List Lane) (p : Pair) → push (acc ++ c ∷ rest) (length acc) p ≡ acc ++ (c ++ p ∷ []) ∷ rest
push_at acc c rest p = rw (get_or-append_seam acc c rest [], set-append_seam acc c rest (c ++ p ∷ []))

push_all_at : (acc : List Lane) (c : Lane) (rest : List Lane) (l : Lane) → push_all (acc ++ c ∷ rest) (length acc) l ≡ acc ++ (c ++ l) ∷ rest
push_all_at acc c rest [] = rw append-nil
push_all_at acc c rest (p ∷ l) =
    ap (λ (x : List Lane). push_all x (length acc) l) (push_at acc c rest p) ∙ push_all_at acc (c ++ p ∷ []) rest l ∙ rw (append_assoc c (p ∷ []) l)

laid_all : (acc rest : List Lane) (k : ℕ) → length rest ≡ k → laid (acc ++ replicate k []) (length acc) rest ≡ acc ++ rest
laid_all acc [] zero e = refl
laid_all acc [] (suc k) e = absurd (omega arith)
laid_all acc (l ∷ rest) zero e = absurd (omega arith)
laid_all acc (l ∷ rest) (suc k) e =
    let next : acc ++ l ∷ replicate k [] ≡ (acc ++ l ∷ []) ++ replicate k [] = sym (append_assoc acc (l ∷ []) (replicate k [])) in
    let long : length acc + 1 ≡ length (acc ++ l ∷ []) = sym (length-append acc (l ∷ [])) in
    ap (λ (x : List Lane). laid x (length acc + 1) rest) (push_all_at acc [] (replicate k []) l ∙ next)
    ∙ ap (λ (j : ℕ). laid ((acc ++ l ∷ []) ++ replicate k []) j rest) long
    ∙ laid_all (acc ++ l ∷ []) rest k (omega arith) ∙ append_assoc acc (l ∷ []) rest

-- ---- the words that are left

module _ (ps : List Pair) (ws : List ℕ) (i : ℕ) where
  abbrev pub left : List Lane
  left = lanes_in ps (drop i ws)

pair_words_lem : (ps : List Pair) (ws : List ℕ) (i : ℕ) → i + 1 < length ws → left ps ws i ≡ pair_more ps (get_or ws i 0) (get_or ws (i + 1) 0) (left ps ws (i + 2))
unfolding lanes_in
pair_words_lem ps ws i h =
    let a : i + 2 ≡ suc (suc i) = omega arith in
    rw (a, add-one i, drop-cons ws i 0 (omega arith), drop-cons ws (suc i) 0 (omega arith))

half_words_lem : (ps : List Pair) (ws : List ℕ) (i : ℕ) → i < length ws → length ws ≤ i + 1 → left ps ws i ≡ [] ∷ []
unfolding lanes_in
half_words_lem ps ws i h k =
    let q : length ws ≤ suc i = omega arith in
    rw (drop-cons ws i 0 h, drop_of_length-le ws q)

no_words : (ps : List Pair) (ws : List ℕ) (i : ℕ) → length ws ≤ i → left ps ws i ≡ []
unfolding lanes_in
no_words ps ws i h = rw (drop_of_length-le ws h)

-- ---- what holds between two pairs

module _ (st : List ℕ) (ws : List ℕ) (n : ℕ) where
  abbrev ps : List Pair
  ps = pairs_of st

  -- the pairs that stood have a mark
  abbrev Marked : List ℕ → List Pair → Type 0
  Marked seen stood = (p : ℕ) → p < length st / 2 → bit_at seen p ≡ times (get_or st (2 * p) 0) (get_or st (2 * p + 1) 0) stood

  pub record Judging (table seen : List ℕ) (lane place b i : ℕ) : Type 0 where
    pub stood : List Pair
    pub lanes : List Lane
    pub same_bad : rest_bad ps stood b lane place (left ps ws i) ≡ bad_pair ps [] 0 (lanes_in ps ws)
    pub same_pairs : stood ++ joined (left ps ws i) ≡ joined (lanes_in ps ws)
    pub same_count : lane + left_lanes place (length (left ps ws i)) ≡ length (lanes_in ps ws)
    pub same_lanes : laid lanes lane (left ps ws i) ≡ laid (replicate n []) 0 (lanes_in ps ws)
    pub table_is : table ≡ table_of lanes
    pub wide : length lanes ≡ n
    pub here : lane < n → length (get_or lanes lane []) ≡ place
    pub later : (j : ℕ) → lane < j → get_or lanes j [] ≡ []
    pub some_bits : place ≤ b
    pub light : b ≤ 32
    pub marked : Marked seen stood
    pub marks : length seen ≡ 256
    pub lane_few : 2 * lane ≤ i
    pub within : i ≤ length ws

  empty_at : (k j : ℕ) → get_or (replicate {A = Lane} k []) j [] ≡ []
  empty_at zero j = refl
  empty_at (suc k) zero = refl
  empty_at (suc k) (suc j) = empty_at k j

  no-marks : Marked (replicate 256 0) []
  unfolding bit_at
  no-marks p h = rw (zeros_at 256 (p / 32), bit_zero (p % 32), times_nil (get_or st (2 * p) 0) (get_or st (2 * p + 1) 0))

  pub judging_start : (table seen : List ℕ) → table ≡ replicate (32 * n) 0 → seen ≡ replicate 256 0 → Judging table seen 0 0 0 0
  judging_start table seen et es = record {
    stood = [];
    lanes = replicate n [];
    same_bad = rest-start ps (lanes_in ps ws);
    same_pairs = refl;
    same_count = omega arith;
    same_lanes = refl;
    table_is = et ∙ sym (table_empty n);
    wide = length-replicate n [];
    here = λ h. ap length (empty_at n 0);
    later = λ j h. empty_at n j;
    some_bits = omega arith;
    light = omega arith;
    marked = rw es no-marks;
    marks = ap length es ∙ length-replicate {A = ℕ} 256 0;
    lane_few = omega arith;
    within = omega arith;
  }

  module _ {table seen : List ℕ} {lane place b i : ℕ} (j : Judging table seen lane place b i) where
    -- an end
    pub judging_end : i + 1 < length ws → get_or ws (i + 1) 0 ≡ 0 → Judging table seen (lane + 1) 0 0 (i + 2)
    unfolding joined
    judging_end h e =
        let next : left ps ws i ≡ [] ∷ left ps ws (i + 2) = pair_words_lem ps ws i h ∙ more_end ps _ _ (left ps ws (i + 2)) e in
        record {
          stood = j.stood;
          lanes = j.lanes;
          same_bad = sym (rest_end ps j.stood b lane place (left ps ws (i + 2))) ∙ rw next at j.same_bad;
          same_pairs = rw next at j.same_pairs;
          same_count = omega (arith, rw (next, left_end place (length (left ps ws (i + 2)))) at j.same_count);
          same_lanes = rw next at j.same_lanes;
          table_is = j.table_is;
          wide = j.wide;
          here = λ l. ap length (j.later (lane + 1) (omega arith));
          later = λ k l. j.later k (omega arith);
          some_bits = omega arith;
          light = omega arith;
          marked = j.marked;
          marks = j.marks;
          lane_few = omega (arith, j.lane_few);
          within = omega arith;
        }

    pub table_long : length table ≡ 32 * n
    table_long = ap length j.table_is ∙ table_length j.lanes ∙ ap (λ (k : ℕ). 32 * k) j.wide

    -- what was judged, where nothing is left of it
    filled : j.stood ≡ joined (lanes_in ps ws) → j.lanes ≡ laid (replicate n []) 0 (lanes_in ps ws) → PairsFilled st n (lanes_in ps ws) table seen
    filled pairs all = record {
      marked = λ p h. j.marked p h ∙ ap (times (get_or st (2 * p) 0) (get_or st (2 * p + 1) 0)) pairs;
      table_is = λ e. j.table_is ∙ ap table_of (all ∙ laid_all [] (lanes_in ps ws) n e);
    }

    -- a pair: it may stand there exactly where `fit` says its number
    module _ (form : broken ps ≡ none) (small : (x : ℕ) → get_or ws x 0 < 2 ^ 32) (few : length st ≤ 16384) (h : i + 1 < length ws) (no_end : get_or ws (i + 1) 0 ≡ 0 → ⊥) where
      abbrev w : ℕ
      w = get_or ws i 0

      abbrev m : ℕ
      m = get_or ws (i + 1) 0

      abbrev k : ℕ
      k = pair_index ps w m

      some-mask : 0 < m
      some-mask = omega arith

      next : left ps ws i ≡ in_front (pair_for ps w m) (left ps ws (i + 2))
      next = pair_words_lem ps ws i h ∙ more_pair ps w m (left ps ws (i + 2)) some-mask

      number-test : ltb k (length st / 2) ≡ ltb 0 (times w m ps)
      number-test = ⊎_elim
          (λ l. lt-ltb _ _ (found_pair st form w m l).0 ∙ sym (lt-ltb _ _ l))
          (λ l. let z : times w m ps ≡ 0 = omega arith in
          let none-there : k ≡ length st / 2 = number_nowhere ps w m z ∙ pairs_count st form in
          le-ltb k (length st / 2) (omega arith) ∙ sym (le-ltb 0 (times w m ps) l))
          (lt_or_ge 0 (times w m ps))

      -- the mark at its number is that of its word and mask
      mark_is : 0 < times w m ps → bit_at seen k ≡ times w m j.stood
      mark_is l =
          let f = found_pair st form w m l in
          let at : bit_at seen k ≡ times (get_or st (2 * k) 0) (get_or st (2 * k + 1) 0) j.stood = j.marked k f.0 in
          let w-is : get_or st (2 * k) 0 ≡ w = sym (ap (λ (p : Pair). p.word) f.1) in
          let m-is : get_or st (2 * k + 1) 0 ≡ m = sym (ap (λ (p : Pair). p.mask) f.1) in
          rw (w-is, m-is) at at

      -- so the tests are the same
      tests-are : ((ltb k (length st / 2) && eqb (bit_at seen k) 0) && leb (b + pop m) 32) ≡ ((ltb 0 (times w m ps) && eqb (times w m j.stood) 0) && leb (b + pop m) 32)
      tests-are =
          ap (λ (t : Bool). (t && eqb (bit_at seen k) 0) && leb (b + pop m) 32) number-test
          ∙ ⊎_elim
          (λ l. ap (λ (y : ℕ). (ltb 0 (times w m ps) && eqb y 0) && leb (b + pop m) 32) (mark_is l))
          (λ l. let z : ltb 0 (times w m ps) ≡ false = le-ltb 0 (times w m ps) l in
          ap (λ (t : Bool). (t && eqb (bit_at seen k) 0) && leb (b + pop m) 32) z ∙ sym (ap (λ (t : Bool). (t && eqb (times w m j.stood) 0) && leb (b + pop m) 32) z))
          (lt_or_ge 0 (times w m ps))

      abbrev picked : Bool → Option ℕ
      picked t = elim t [ true ↦ some k | false ↦ none ]

      fit_is : fitting_pair st seen b w m ≡ picked (belongs ps j.stood b (pair_for ps w m))
      unfolding fitting_pair belongs
      fit_is = ap picked tests-are

      -- it may not
      pub judged_bad : (r : code.Option ℕ) → r ≡ item_of (fitting_pair st seen b w m) → r ≡ None → (x : ℕ) → x ≡ (64 * lane + place) % 2 ^ 64
          → (Err (record { item = x }) ≡ judged_of (bad_pair ps [] 0 (lanes_in ps ws)) (length (lanes_in ps ws)))
          × (bad_pair ps [] 0 (lanes_in ps ws) ≡ none → PairsFilled st n (lanes_in ps ws) table seen)
      judged_bad r er f x ex = go (belongs ps j.stood b (pair_for ps w m)) refl
        where
          Post : Type 0
          Post = (Err (record { item = x }) ≡ judged_of (bad_pair ps [] 0 (lanes_in ps ws)) (length (lanes_in ps ws))) × (bad_pair ps [] 0 (lanes_in ps ws) ≡ none → PairsFilled st n (lanes_in ps ws) table seen)

          go : (t : Bool) → belongs ps j.stood b (pair_for ps w m) ≡ t → Post
          go true t =
              absurd (some_not_none (sym (fit_is ∙ ap picked t) ∙ item_none _ (sym er ∙ f)))
          go false t =
              let bad : bad_pair ps [] 0 (lanes_in ps ws) ≡ some (64 * lane + place) =
              sym (rw next at j.same_bad) ∙ rest-bad ps j.stood b lane place (pair_for ps w m) (left ps ws (i + 2)) t in
              (rw bad (ap (λ (y : ℕ). Err (record { item = y })) ex), λ e. absurd (some_not_none (sym bad ∙ e)))

      mask-bits : 0 < pop m
      mask-bits = pop_some m (small (i + 1)) some-mask

      -- it may
      module _ (r : code.Option ℕ) (er : r ≡ item_of (fitting_pair st seen b w m)) (p : ℕ) (fits : r ≡ Some p) where
        fitting : fitting_pair st seen b w m ≡ some p
        fitting = item_some _ p (sym er ∙ fits)

        right-test : belongs ps j.stood b (pair_for ps w m) ≡ true
        right-test = go (belongs ps j.stood b (pair_for ps w m)) refl
          where
            go : (t : Bool) → belongs ps j.stood b (pair_for ps w m) ≡ t → t ≡ true
            go false t = absurd (some_not_none (sym fitting ∙ (fit_is ∙ ap picked t)))
            go true t = refl

        right : Belongs ps j.stood b (pair_for ps w m)
        right = belongs_is ps j.stood b (pair_for ps w m) right-test

        number_is : p ≡ k
        number_is =
            let same : ◌≡◌ {A = Option ℕ} (some p) (some k) = sym fitting ∙ (fit_is ∙ ap picked right-test) in
            cc

        pub may_number : p < 8192
        may_number = omega (arith, (found_pair st form w m right.of_set).0, number_is)

        pub may_bits : b + pop m ≤ 32
        may_bits = right.fits

        abbrev new : Pair
        new = pair_for ps w m

        pub may_place : place < 32
        may_place = omega (arith, j.some_bits, right.fits, mask-bits)

        table_more : tabled n table lane place k ≡ table_of (push j.lanes lane new)
        unfolding tabled
        table_more = ⊎_elim
            (λ l. let free : length (get_or j.lanes lane []) < 32 = omega (arith, j.here l, may_place) in
            ap placed (lt-ltb lane n l)
            ∙ ap (λ (t : List ℕ). set t (32 * lane + place) (k + 1)) j.table_is
            ∙ ap (λ (r : ℕ). set (table_of j.lanes) (32 * lane + r) (k + 1)) (sym (j.here l))
            ∙ table_put j.lanes lane new (omega (arith, j.wide)) free)
            (λ l. let out : push j.lanes lane new ≡ j.lanes = set_out j.lanes lane _ (omega (arith, j.wide)) in
            ap placed (le-ltb lane n l) ∙ j.table_is ∙ ap table_of (sym out))
            (lt_or_ge lane n)
          where
            placed : Bool → List ℕ
            placed t = elim t [ true ↦ put_in_lane table lane place k | false ↦ table ]

        here-more : lane < n → length (get_or (push j.lanes lane new) lane []) ≡ place + 1
        here-more l =
            let there : lane < length j.lanes = omega (arith, j.wide) in
            rw (get_or-set_same j.lanes lane (get_or j.lanes lane [] ++ new ∷ []) [] there) (omega (arith, length-append (get_or j.lanes lane []) (new ∷ []), j.here l))

        later_more : (q : ℕ) → lane < q → get_or (push j.lanes lane new) q [] ≡ []
        later_more q l = get_or-set_other j.lanes lane q _ [] (λ (e : q ≡ lane). omega arith) ∙ j.later q l

        -- pair k is the new one, and no other is
        other-pair : (q : ℕ) → q < length st / 2 → (q ≡ k → ⊥) → times (get_or st (2 * q) 0) (get_or st (2 * q + 1) 0) (new ∷ []) ≡ 0
        other-pair q l d = ⊎_elim
            (λ p. let s = one_is _ _ new p in
            let is : k ≡ q = rw (← s.0, ← s.1) at (pair_number st form q l) in
            absurd (d (sym is)))
            (λ p. omega arith)
            (lt_or_ge 0 (times (get_or st (2 * q) 0) (get_or st (2 * q + 1) 0) (new ∷ [])))

        marked_more : Marked (set_bit seen k) (j.stood ++ new ∷ [])
        marked_more q l = by (ℕ_discrete q k)
          where
            wq : ℕ
            wq = get_or st (2 * q) 0

            mq : ℕ
            mq = get_or st (2 * q + 1) 0

            f : (k < length st / 2) × (pair_for ps w m ≡ pair_at st k)
            f = found_pair st form w m right.of_set

            in-marks : k / 32 < length seen
            in-marks = omega (arith, f.0, j.marks)

            by : Dec (q ≡ k) → bit_at (set_bit seen k) q ≡ times wq mq (j.stood ++ new ∷ [])
            by (yes e) =
                let is : wq ≡ w = rw e (sym (ap (λ (p : Pair). p.word) f.1)) in
                let im : mq ≡ m = rw e (sym (ap (λ (p : Pair). p.mask) f.1)) in
                rw (at_set-bit seen k q in-marks, eq-eqb q k e, is, im) (omega (arith, times_append w m j.stood (new ∷ []), right.first, times_here new [], times_one w m new))
            by (no d) =
                rw (at_set-bit seen k q in-marks, ne_eqb q k d) (j.marked q l ∙ (omega (arith, times_append wq mq j.stood (new ∷ []), other-pair q l d)))

        pub judging_pair : (table' seen' : List ℕ) (b' : ℕ) → table' ≡ tabled n table lane place p → seen' ≡ set_bit seen p → b' ≡ b + pop m
            → Judging table' seen' lane (place + 1) b' (i + 2)
        judging_pair table' seen' b' et es eb = rw eb (record {
          stood = j.stood ++ new ∷ [];
          lanes = push j.lanes lane new;
          same_bad = sym (rest-pair ps j.stood b lane place new (left ps ws (i + 2)) right-test) ∙ rw next at j.same_bad;
          same_pairs = append_assoc j.stood (new ∷ []) (joined (left ps ws (i + 2))) ∙ rw (next, joined_front new (left ps ws (i + 2))) at j.same_pairs;
          same_count = rw (next, left_pair place new (left ps ws (i + 2))) at j.same_count;
          same_lanes = sym (laid_front j.lanes lane new (left ps ws (i + 2))) ∙ rw next at j.same_lanes;
          table_is = et ∙ ap (λ (q : ℕ). tabled n table lane place q) number_is ∙ table_more;
          wide = length-set j.lanes lane _ ∙ j.wide;
          here = here-more;
          later = later_more;
          some_bits = omega (arith, j.some_bits, mask-bits);
          light = right.fits;
          marked = rw (es, number_is) marked_more;
          marks = ap length es ∙ set-bit_length seen p ∙ j.marks;
          lane_few = omega (arith, j.lane_few);
          within = omega arith;
        })

    -- what is promised of the judgement
    abbrev Post : Result ℕ Misplaced → Type 0
    Post r = (r ≡ judged_of (bad_pair ps [] 0 (lanes_in ps ws)) (length (lanes_in ps ws))) × (bad_pair ps [] 0 (lanes_in ps ws) ≡ none → PairsFilled st n (lanes_in ps ws) table seen)

    -- nothing is left
    judged-all : length ws ≤ i → Post (Ok (lane + left_lanes place 0))
    unfolding joined
    judged-all h =
        let next : left ps ws i ≡ [] = no_words ps ws i h in
        let fine : bad_pair ps [] 0 (lanes_in ps ws) ≡ none = sym (rw next at j.same_bad) in
        let count : lane + left_lanes place 0 ≡ length (lanes_in ps ws) = rw next at j.same_count in
        let pairs : j.stood ≡ joined (lanes_in ps ws) = sym (append-nil j.stood) ∙ rw next at j.same_pairs in
        (rw fine (ap Ok count), λ e. filled pairs (rw next at j.same_lanes))

    pub judged_open : length ws ≤ i → 0 < place → Post (Ok (lane + 1))
    judged_open h l =
        let one : lane + left_lanes place 0 ≡ lane + 1 = ap (λ (x : ℕ). lane + x) (left_open place l) in
        (ap Ok (sym one) ∙ (judged-all h).0, (judged-all h).1)

    pub judged_closed : length ws ≤ i → place ≤ 0 → Post (Ok lane)
    judged_closed h l =
        let none_left : lane + left_lanes place 0 ≡ lane = ap (λ (x : ℕ). lane + x) (left_closed place l) ∙ add-zero lane in
        (ap Ok (sym none_left) ∙ (judged-all h).0, (judged-all h).1)

    -- a half pair is left, which is an end
    pub judged_half : i < length ws → length ws ≤ i + 1 → Post (Ok (lane + 1))
    unfolding joined bad_pair bad_from
    judged_half h k =
        let next : left ps ws i ≡ [] ∷ [] = half_words_lem ps ws i h k in
        let fine : bad_pair ps [] 0 (lanes_in ps ws) ≡ none = sym (rw next at j.same_bad) in
        let count : lane + left_lanes place 1 ≡ length (lanes_in ps ws) = rw next at j.same_count in
        let one : lane + 1 ≡ length (lanes_in ps ws) = ap (λ (x : ℕ). lane + x) (sym (left_end place 0)) ∙ count in
        let pairs : j.stood ≡ joined (lanes_in ps ws) = sym (append-nil j.stood) ∙ rw next at j.same_pairs in
        (rw fine (ap Ok one), λ e. filled pairs (rw next at j.same_lanes))
