-- Counting over the table, lane by lane, and what a good part adds: the code's numbers are the definition's by the laws of a packing.
-- Assumes nothing.
use mathlib.Core.Path.{◌≡◌, refl, sym, ap, ◌∙◌}
use mathlib.Core.Bool.{Bool, true, false}
use mathlib.Core.List.{List, [], ◌∷◌}
use Prim.Native.Nat.{ℕ, ◌+◌, ◌*◌, ◌/◌, ◌≤◌, ◌<◌, max}
use native.Mathlib.Nat.{le_trans, mul-le-mul_left}
use native.Mathlib.Numerals.{add-one}
use native.Mathlib.Omega.{arith}
use borrow.Author.Tests.{ltb-true, ltb-false}
use lib.Dec.{ltb}
use Rattle.std.proofs.Common.{nat_cmp}
use Rattle.std.proofs.lemmas.Bool.Decides.{nat_tests}
use Rattle.std.specs.Ordering.{ord_max}
use lib.ListN.{length, get_or, drop, drop_of_length-le, get_or-eq_default}
use lib.Seq.{drop-cons}
use Rattle.words.specs.Edition.{part_words}
use Rattle.reads.specs.ReadSet.{total, pairs_of}
use Rattle.reads.specs.Search.{Lane, longest}
use Rattle.reads.proofs.RoundCountLaws.{longest_le}
use Rattle.reads_try.specs.TableLanes.{lane_of, row_at, lanes_at, SoundLane, Each}
use Rattle.reads_try.proofs.LaneTableLaws.{lane_at, kept_sound, drawn_thin}
use Rattle.reads_try.proofs.SetPairLaws.{pairs_length}
use Rattle.reads_section.specs.Readout.{TableReadable}
use Rattle.reads_section.proofs.PairFormLaws.{form_whole}
use Rattle.report.specs.Report.{part_given, lane_used, lanes_in_use, empty_in, contents, Gain, gain_of}
use Rattle.report.proofs.PartLaws.{requested, empty_is}
use Rattle.report_part.specs.PartOutcome.{counted_of, Gainable}
use Rattle.report_part.specs.declared.counts.Counted.{Counted}

-- ---- lane by lane

module _ {ws t : List ℕ} {n : ℕ} (h : TableReadable ws t n) where
  abbrev lanes : List Lane
  lanes = lanes_at ws t n

  from-lane : (j : ℕ) → j < n → drop j lanes ≡ lane_of ws (row_at t j) ∷ drop (j + 1) lanes
  from-lane j l = drop-cons lanes j [] (omega (arith, h.filled.kept.wide)) ∙ rw (add-one j, lane_at ws t n j l)

  no_lane : (j : ℕ) → n ≤ j → drop j lanes ≡ []
  no_lane j l = let q : length lanes ≤ j = omega (arith, h.filled.kept.wide) in drop_of_length-le lanes q

  pub bits_step : (j : ℕ) → j < n → contents (drop j lanes) ≡ total (lane_of ws (row_at t j)) + contents (drop (j + 1) lanes)
  unfolding contents
  bits_step j l = ap contents (from-lane j l)

  pub bits_end : (j : ℕ) → n ≤ j → contents (drop j lanes) ≡ 0
  unfolding contents
  bits_end j l = ap contents (no_lane j l)

  pub used_step : (j : ℕ) → j < n → lanes_in_use (drop j lanes) ≡ lane_used (lane_of ws (row_at t j)) + lanes_in_use (drop (j + 1) lanes)
  unfolding lanes_in_use
  used_step j l = ap lanes_in_use (from-lane j l)

  pub used_end : (j : ℕ) → n ≤ j → lanes_in_use (drop j lanes) ≡ 0
  unfolding lanes_in_use
  used_end j l = ap lanes_in_use (no_lane j l)

  -- what n lanes can hold
  held-most : (ls : List Lane) → Each (SoundLane ws) ls → contents ls ≤ 32 * length ls
  unfolding contents
  held-most [] s = omega arith
  held-most (l ∷ ls) s = omega (arith, s.0.light, held-most ls s.1)

  used_most : (ls : List Lane) → lanes_in_use ls ≤ length ls
  unfolding lanes_in_use lane_used
  used_most [] = omega arith
  used_most ([] ∷ ls) = omega (arith, used_most ls)
  used_most ((p ∷ l) ∷ ls) = omega (arith, used_most ls)

  pub bits_few : contents lanes ≤ 8192
  bits_few = omega (arith, held-most lanes h.filled.kept.sound, h.filled.kept.wide, h.few)

  -- a lane has no more pairs than bits
  pub rounds_few : longest lanes ≤ 32
  rounds_few = longest_le lanes 32 each
    where
      each : (i : ℕ) → length (get_or lanes i []) ≤ 32
      each i = go (ltb i n) refl
        where
          go : (t : Bool) → ltb i n ≡ t → length (get_or lanes i []) ≤ 32
          go true t =
              let s = kept_sound h.filled.kept i (ltb-true i n t) in
              omega (arith, drawn_thin ws (get_or lanes i []) s.drawn, s.light)
          go false t =
              let q : length lanes ≤ i = omega (arith, h.filled.kept.wide, ltb-false i n t) in
              rw (get_or-eq_default lanes [] q) (omega arith)

  pub lanes_few : lanes_in_use lanes ≤ 256
  lanes_few = omega (arith, used_most lanes, h.filled.kept.wide, h.few)

pub use_some : (l : Lane) (k : ℕ) → k ≡ length l → 0 < k → lane_used l ≡ 1
unfolding lane_used
use_some [] k e h = absurd (omega arith)
use_some (p ∷ l) k e h = refl

pub use_none : (l : Lane) (k : ℕ) → k ≡ length l → k ≤ 0 → lane_used l ≡ 0
unfolding lane_used
use_none [] k e h = refl
use_none (p ∷ l) k e h = absurd (omega arith)

-- the code's greater of two numbers
pub max_is : (a b : ℕ) → ord_max nat_cmp a b ≡ max a b
max_is a b = grind (arith, nat_tests)

pub counted_is : (lanes : List Lane) (b l r : ℕ) → b ≡ contents lanes → l ≡ lanes_in_use lanes → r ≡ longest lanes → ◌≡◌ {A = Counted} (record { bits = b; lanes = l; rounds = r }) (counted_of lanes)
counted_is lanes b l r eb el er = rw (eb, el, er)

-- ---- the gain

pub rounds_fit : (n r : ℕ) → n ≤ 256 → r ≤ 32 → n * r ≤ 8192
rounds_fit n r h l = le_trans (mul-le-mul_left n l) (omega arith)

module _ {set table : List ℕ} {n : ℕ} (g : Gainable set table n) where
  -- the pairs of the set are among the lanes' rounds
  pub pairs_inside : (r : ℕ) → r ≡ longest (lanes_at set table n) → length set / 2 ≤ n * r
  pairs_inside r e =
      let all = empty_is n (pairs_of set) (lanes_at set table n) g.packing in
      let same : n * r ≡ longest (lanes_at set table n) * n = rw e (omega arith) in
      omega (arith, all, same, pairs_length 0 set)

  pub gain_is : (stages b l r e w : ℕ) → b ≡ contents (lanes_at set table n) → l ≡ lanes_in_use (lanes_at set table n) → r ≡ longest (lanes_at set table n)
      → e + length set / 2 ≡ n * r → w ≡ part_words n r stages
      → ◌≡◌ {A = Gain} (record { bits = b; lanes = l; rounds = r; empty = e; words = w }) (gain_of n (part_given set [] stages) (lanes_at set table n))
  gain_is stages b l r e w eb el er ee ew =
      let asked : b ≡ total (pairs_of set) = eb ∙ sym (requested n (pairs_of set) (lanes_at set table n) g.packing) in
      let all = empty_is n (pairs_of set) (lanes_at set table n) g.packing in
      let same : n * r ≡ longest (lanes_at set table n) * n = rw er (omega arith) in
      let rest : e ≡ empty_in (longest (lanes_at set table n)) (lanes_at set table n) = omega (arith, all, same, ee, pairs_length 0 set, form_whole set g.form) in
      let script : w ≡ part_words n (longest (lanes_at set table n)) stages = ew ∙ ap (λ (x : ℕ). part_words n x stages) er in
      rw (asked, el, er, rest, script)
