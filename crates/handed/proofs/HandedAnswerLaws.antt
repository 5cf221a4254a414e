-- Which outcome each way through the code has, and what the table holds when lanes handed in are a packing.
-- Assumes nothing.
use mathlib.Core.Path.{◌≡◌, refl, sym, ap, ◌∙◌}
use mathlib.Core.Bool.{Bool, true, false, ◌&&◌}
use mathlib.Core.Option.{Option, none, some}
use mathlib.Core.List.{List, [], ◌++◌, append-nil}
use Prim.Native.Nat.{ℕ, ◌+◌, ◌*◌, ◌/◌, ◌%◌, ◌^◌, ◌≤◌, ◌<◌}
use native.Mathlib.Omega.{arith}
use borrow.Author.Tests.{le-leb, lt-leb, lt-ltb, le-ltb, eqb-true, eq-eqb}
use lib.Dec.{leb, eqb}
use lib.ListN.{length, get_or, replicate}
use Rattle.words.specs.Bit.{bit_at}
use Rattle.words.specs.Tests.{all_below}
use Rattle.words.specs.Found.{item_of}
use Rattle.std.specs.Prelude.{Some, None, Ok, Err}
use Rattle.std.specs.declared.option.Option as code
use Rattle.std.specs.declared.result.Result.{Result}
use Rattle.words.specs.declared.refusals.Refusal.{Refusal}
use Rattle.words.proofs.FoundLaws.{item_none}
use Rattle.words.specs.Answer.{Answer, good, refused, at_item, nowhere}
use Rattle.words.proofs.BitLaws.{at_lt}
use Rattle.words.proofs.TestLaws.{all_at, all_true, and_true, some_not_none}
use Rattle.reads.specs.ReadSet.{Pair, pairs_of, broken}
use Rattle.reads.specs.Search.{Lane, joined, longest}
use Rattle.reads.specs.Packing.{times}
use Rattle.reads.specs.SetAnswer.{Packed, set_fitted, result_after, set_room_after}
use Rattle.reads.proofs.RoundCountLaws.{rounds_range}
use Rattle.reads.proofs.SetLaws.{pairs_small}
use Rattle.reads_try.specs.LaneTable.{table_of}
use Rattle.reads_try.specs.TableLanes.{lanes_at}
use Rattle.reads_try.proofs.SetPairLaws.{pairs_length}
use Rattle.reads_try.proofs.LaneTableLaws.{filled_of, filled_lanes}
use Rattle.reads_section.specs.Readout.{TableReadable}
use Rattle.rounds.specs.declared.Placed as placed
use Rattle.rounds.specs.Rounds.{rounds_of}
use Rattle.handed.specs.declared.fill.Misplaced.{Misplaced}
use Rattle.handed_lanes.specs.Handed.{pair_index, lanes_in, bad_pair, all_stand, whole, fault, told_item, judged, handed_packed, handed_set, handed_answer}
use Rattle.handed.specs.Fill.{judged_of, table_handed, PairsFilled}
use Rattle.handed_lanes.proofs.FaultLaws.{exactly_when, none_fault, bad_fault, count_fault, stand_at, at_stand}
use Rattle.handed_lanes.proofs.LaneWordLaws.{pair_times, found_pair}
use Rattle.handed.proofs.HandedLaws.{faultless_judged, faultless_sound}

-- ---- the judgement of the pairs, then the number of lanes and the marks

pub bad_is : (o : Option ℕ) (count : ℕ) (x : Misplaced) → Err x ≡ judged_of o count → (y : ℕ) × (o ≡ some y) × (x.item ≡ y % 2 ^ 64)
bad_is none count x e =
    let z : ◌≡◌ {A = ℕ} 0 1 = cc in
    absurd (omega arith)
bad_is (some y) count x e = (y, refl, cc)

pub lanes_are : (o : Option ℕ) (count x : ℕ) → Ok x ≡ judged_of o count → (o ≡ none) × (x ≡ count)
lanes_are none count x e = (refl, cc)
lanes_are (some y) count x e =
    let z : ◌≡◌ {A = ℕ} 0 1 = cc in
    absurd (omega arith)

-- what filling promises
abbrev pub Judgement : (n : ℕ) (set ws : List ℕ) → code.Option ℕ → List ℕ → Type 0
Judgement n set ws r table =
    (r ≡ item_of (told_item (fault n (pairs_of set) (lanes_in (pairs_of set) ws)))) × (table ≡ table_handed n (fault n (pairs_of set) (lanes_in (pairs_of set) ws)) (lanes_in (pairs_of set) ws))

module _ (n : ℕ) (set ws : List ℕ) where
  abbrev ls : List Lane
  ls = lanes_in (pairs_of set) ws

  fault_post : (x y : ℕ) (table : List ℕ) → fault n (pairs_of set) ls ≡ some x → y ≡ x % 2 ^ 64 → table ≡ replicate (32 * n) 0 → Judgement n set ws (Some y) table
  unfolding told_item
  fault_post x y table e ey et = rw e (ap Some ey, et)

  -- a pair may not stand where it does
  pub bad_post : (x : Misplaced) (table : List ℕ) → Err x ≡ judged_of (bad_pair (pairs_of set) [] 0 ls) (length ls) → table ≡ replicate (32 * n) 0 → Judgement n set ws (Some x.item) table
  bad_post x table e et =
      let b = bad_is _ _ x e in
      fault_post b.0 x.item table (bad_fault n (pairs_of set) ls b.0 b.1) b.2 et

  module _ (form : broken (pairs_of set) ≡ none) (table seen : List ℕ) (count : ℕ) (told-count : Ok count ≡ judged_of (bad_pair (pairs_of set) [] 0 ls) (length ls))
      (filled : bad_pair (pairs_of set) [] 0 ls ≡ none → PairsFilled set n ls table seen) where
    f : PairsFilled set n ls table seen
    f = filled (lanes_are _ _ count told-count).0

    -- the marks say whether each pair stands
    marks-are : all_below (λ p. eqb (bit_at seen p) 1) (length set / 2) ≡ all_stand (pairs_of set) (joined ls)
    marks-are = go (all_below (λ p. eqb (bit_at seen p) 1) (length set / 2)) refl (all_stand (pairs_of set) (joined ls)) refl
      where
        all-stand : all_below (λ p. eqb (bit_at seen p) 1) (length set / 2) ≡ true → all_stand (pairs_of set) (joined ls) ≡ true
        all-stand t =
            at_stand (pairs_of set) (joined ls) (pairs_of set) (λ w m h.
            let k = pair_index (pairs_of set) w m in
            let there = found_pair set form w m h in
            let one : bit_at seen k ≡ 1 = eqb-true (bit_at seen k) 1 (all_at (λ p. eqb (bit_at seen p) 1) (length set / 2) k t there.0) in
            let w-is : get_or set (2 * k) 0 ≡ w = sym (ap (λ (p : Pair). p.word) there.1) in
            let m-is : get_or set (2 * k + 1) 0 ≡ m = sym (ap (λ (p : Pair). p.mask) there.1) in
            let is : bit_at seen k ≡ times w m (joined ls) = f.marked k there.0 ∙ ap (λ (x : ℕ). times x (get_or set (2 * k + 1) 0) (joined ls)) w-is ∙ ap (λ (x : ℕ). times w x (joined ls)) m-is in
            omega (arith, one, is))

        all-marked : all_stand (pairs_of set) (joined ls) ≡ true → (p : ℕ) → p < length set / 2 → 0 < bit_at seen p
        all-marked t p h = omega (arith, f.marked p h, stand_at (pairs_of set) (joined ls) (pairs_of set) _ _ t (pair_times set form p h))

        go : (a : Bool) → all_below (λ p. eqb (bit_at seen p) 1) (length set / 2) ≡ a → (b : Bool) → all_stand (pairs_of set) (joined ls) ≡ b → a ≡ b
        go true ea true eb = refl
        go false ea false eb = refl
        go true ea false eb = sym (all-stand ea) ∙ eb
        go false ea true eb = sym ea ∙ all_true (λ p. eqb (bit_at seen p) 1) (length set / 2) (λ p h. eq-eqb (bit_at seen p) 1 (omega (arith, all-marked eb p h, at_lt seen p)))

    -- nothing is wrong
    pub fine_post : (eqb count n && all_below (λ p. eqb (bit_at seen p) 1) (length set / 2)) ≡ true → Judgement n set ws None table
    unfolding told_item
    fine_post t =
        let c = lanes_are _ _ count told-count in
        let both = and_true (eqb count n) _ t in
        let wide : length ls ≡ n = sym c.1 ∙ eqb-true _ _ both.0 in
        let fine = none_fault n (pairs_of set) ls (record { no_bad_one = c.0; wide = wide; stand = sym marks-are ∙ both.1 }) in
        rw fine (refl, f.table_is wide)

    -- not n lanes, or a pair is missing
    pub count_post : (eqb count n && all_below (λ p. eqb (bit_at seen p) 1) (length set / 2)) ≡ false → (y : ℕ) → y ≡ (64 * count + 0) % 2 ^ 64
        → (table' : List ℕ) → table' ≡ replicate (32 * n) 0 → Judgement n set ws (Some y) table'
    unfolding whole
    count_post t y ey table' et =
        let c = lanes_are _ _ count told-count in
        let wrong = count_fault n (pairs_of set) ls c.0 (rw (c.1, marks-are) at t) in
        fault_post _ y table' wrong (rw (← c.1) (omega arith)) et

-- ---- which outcome: 1, 2, 3, 27, 14, each after those before it

module _ (n : ℕ) (set ws : List ℕ) (o : ℕ) where
  abbrev pub end : Answer Packed
  end = set_fitted n o (handed_set n (pairs_of set) ws)

  pub is_many : 16384 < length set → end ≡ refused (nowhere 1)
  unfolding handed_set set_fitted
  is_many h = rw (lt-leb (length (pairs_of set)) 8192 (omega (arith, pairs_length 0 set)), handed_set)

  module _ (few : length set ≤ 16384) where
    pairs-few : leb (length (pairs_of set)) 8192 ≡ true
    pairs-few = le-leb (length (pairs_of set)) 8192 (omega (arith, pairs_length 0 set))

    pub is_bad : (i : ℕ) → broken (pairs_of set) ≡ some i → end ≡ refused (at_item 2 i)
    unfolding handed_set set_fitted
    is_bad i e = rw (pairs-few, e, handed_set)

    module _ (form : broken (pairs_of set) ≡ none) where
      is-packed : handed_set n (pairs_of set) ws ≡ handed_packed n (pairs_of set) ws
      unfolding handed_set
      is-packed = rw (pairs-few, form, handed_set)

      pub is_empty : length set ≡ 0 → end ≡ refused (nowhere 3)
      unfolding handed_packed set_fitted
      is_empty z = rw (is-packed, le-ltb 0 (length (pairs_of set)) (omega (arith, pairs_length 0 set)), handed_packed)

      module _ (some_words : length set ≡ 0 → ⊥) where
        pub nonempty : 0 < length (pairs_of set)
        nonempty = omega (arith, pairs_length 0 set)

        is-judged : handed_set n (pairs_of set) ws ≡ judged n (pairs_of set) (lanes_in (pairs_of set) ws)
        unfolding handed_packed
        is-judged = is-packed ∙ rw (lt-ltb 0 (length (pairs_of set)) nonempty, handed_packed)

        pub is_fault : (i : ℕ) → told_item (fault n (pairs_of set) (lanes_in (pairs_of set) ws)) ≡ some i → end ≡ refused (at_item 27 i)
        unfolding judged set_fitted
        is_fault i e = rw (is-judged, e, judged)

        module _ (fine : fault n (pairs_of set) (lanes_in (pairs_of set) ws) ≡ none) where
          is_good : handed_set n (pairs_of set) ws ≡ good (record { size = 0; lanes = lanes_in (pairs_of set) ws })
          is_good = is-judged ∙ faultless_judged n (pairs_of set) (lanes_in (pairs_of set) ws) fine

          pub is_short : o < 2 * n * longest (lanes_in (pairs_of set) ws) → end ≡ refused (nowhere 14)
          unfolding set_fitted
          is_short l = rw (is_good, lt-leb (2 * n * longest (lanes_in (pairs_of set) ws)) o l, set_fitted)

          pub is_placed : 2 * n * longest (lanes_in (pairs_of set) ws) ≤ o → end ≡ good (record { size = 0; lanes = lanes_in (pairs_of set) ws })
          unfolding set_fitted
          is_placed l = rw (is_good, le-leb (2 * n * longest (lanes_in (pairs_of set) ws)) o l, set_fitted)

-- ---- the lanes that are accepted

pub told_none : (o : Option ℕ) → told_item o ≡ none → o ≡ none
unfolding told_item
told_none none e = refl
told_none (some x) e = absurd (some_not_none e)

module _ (n : ℕ) (set ws : List ℕ) (form : broken (pairs_of set) ≡ none) (small : (x : ℕ) → get_or set x 0 < 2 ^ 32)
    (fine : fault n (pairs_of set) (lanes_in (pairs_of set) ws) ≡ none) where
  -- the table says them
  pub fine_table : (table : List ℕ) → n ≤ 256 → length table ≡ 32 * n → table ≡ table_handed n (fault n (pairs_of set) (lanes_in (pairs_of set) ws)) (lanes_in (pairs_of set) ws)
      → TableReadable set table n × (lanes_at set table n ≡ lanes_in (pairs_of set) ws)
  fine_table table few long e =
      let kept = faultless_sound set form small n ws fine in
      let filled : table ≡ table_of (lanes_in (pairs_of set) ws) ++ [] = (rw fine at e) ∙ sym (append-nil _) in
      (record { few = few; in-room = omega arith; filled = filled_of kept [] filled }, filled_lanes kept [] filled)

  -- they have 32 rounds at most
  pub fine_rounds : 0 < length (pairs_of set) → longest (lanes_in (pairs_of set) ws) ≤ 32
  fine_rounds h =
      let packing = (exactly_when n (pairs_of set) (lanes_in (pairs_of set) ws) form).0 fine in
      (rounds_range n (pairs_of set) (lanes_in (pairs_of set) ws) packing form (λ w m q. (pairs_small 0 set (2 ^ 32) small w m q).1) h).1

-- so it is where nothing wrong is told
pub record Accepted (set ws table : List ℕ) (n : ℕ) : Type 0 where
  pub fine : fault n (pairs_of set) (lanes_in (pairs_of set) ws) ≡ none
  pub readable : TableReadable set table n
  pub same : lanes_at set table n ≡ lanes_in (pairs_of set) ws
  pub few_rounds : longest (lanes_in (pairs_of set) ws) ≤ 32

module _ (n : ℕ) (set ws : List ℕ) (form : broken (pairs_of set) ≡ none) (small : (x : ℕ) → get_or set x 0 < 2 ^ 32) (few : n ≤ 256) (some_words : length set ≡ 0 → ⊥) where
  pub accepted : (r : code.Option ℕ) → r ≡ item_of (told_item (fault n (pairs_of set) (lanes_in (pairs_of set) ws))) → r ≡ None → (table : List ℕ) → length table ≡ 32 * n
      → table ≡ table_handed n (fault n (pairs_of set) (lanes_in (pairs_of set) ws)) (lanes_in (pairs_of set) ws) → Accepted set ws table n
  accepted r er f table long e =
      let fine = told_none _ (item_none _ (sym er ∙ f)) in
      let there = fine_table n set ws form small fine table few long e in
      record {
        fine = fine;
        readable = there.0;
        same = there.1;
        few_rounds = fine_rounds n set ws form small fine (omega (arith, pairs_length 0 set));
      }

-- ---- 32 before all others

-- what is promised of an answer, a result and a room
abbrev pub HandedPromised : (n : ℕ) (set ws out room : List ℕ) → Result placed.Placed Refusal → (out' room' : List ℕ) → Type 0
HandedPromised n set ws out room r out' room' =
    (r ≡ rounds_of (handed_answer n set ws (length out) (length room))) × ((out' ≡ result_after (handed_answer n set ws (length out) (length room)) out) × (room' ≡ set_room_after room))

pub handed_short : (n : ℕ) (set ws out room : List ℕ) (q : Refusal) → length room < 16384 → q ≡ nowhere 32 → HandedPromised n set ws out room (Err q) out room
unfolding handed_answer result_after set_room_after
handed_short n set ws out room q h e =
    let t : leb 16384 (length room) ≡ false = lt-leb 16384 (length room) h in
    (rw (t, handed_answer) (ap Err e), (rw (t, handed_answer, result_after), rw (t, set_room_after)))

pub handed_long : (n : ℕ) (set ws out room : List ℕ) (r : Result placed.Placed Refusal) (out' room' used : List ℕ) → 16384 ≤ length room → r ≡ rounds_of (end n set ws (length out))
    → out' ≡ result_after (end n set ws (length out)) out → room' ≡ replicate (length used) 0 → length used ≡ length room → HandedPromised n set ws out room r out' room'
unfolding handed_answer set_room_after
handed_long n set ws out room r out' room' used h er eo em long =
    let t : leb 16384 (length room) ≡ true = le-leb 16384 (length room) h in
    let o : handed_answer n set ws (length out) (length room) ≡ end n set ws (length out) = rw (t, handed_answer) in
    (rw o er, (rw o eo, em ∙ rw (t, set_room_after, long)))
