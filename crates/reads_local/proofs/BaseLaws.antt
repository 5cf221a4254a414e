-- The stores of a lane and of all lanes, word by word of the table; and a search by halves for a pair's word.
-- Assumes nothing.
use mathlib.Core.Path.{◌≡◌, refl, sym, ap, ◌∙◌}
use mathlib.Core.List.{List, [], ◌∷◌}
use Prim.Native.Nat.{ℕ, zero, suc, ◌+◌, ◌*◌, ◌-◌, ◌/◌, ◌≤◌, ◌<◌}
use native.Mathlib.Nat.{not-suc-le-zero}
use native.Mathlib.Numerals.{add-one}
use native.Mathlib.Omega.{arith}
use lib.ListN.{length, get_or, set, drop, length-set, length-drop, drop_of_length-le}
use lib.Seq.{drop-cons}
use Rattle.words.specs.Bit.{pop}
use Rattle.reads.specs.ReadSet.{total}
use Rattle.reads.specs.Search.{Lane}
use Rattle.reads_try.specs.TableLanes.{lane_of, row_at, lanes_at}
use Rattle.reads_try.specs.Tries.{LaneRowIn}
use Rattle.reads_try.proofs.SetPairLaws.{total_le}
use Rattle.reads_try.proofs.LaneTableLaws.{row_pair, row_total_on, row_short, row_at_word, lane_at, filled_row}
use Rattle.reads_section.specs.Readout.{TableReadable}
use Rattle.reads_local.specs.Bases.{store_lane, store_lanes}

pub lane_length : (b : ℕ) (l : Lane) (bases : List ℕ) → length (store_lane b l bases) ≡ length bases
unfolding store_lane
lane_length b [] bases = refl
lane_length b (p ∷ l) bases = rw length-set (lane_length _ l bases)

pub lanes_length : (i : ℕ) (ls : List Lane) (bases : List ℕ) → length (store_lanes i ls bases) ≡ length bases
unfolding store_lanes
lanes_length i [] bases = refl
lanes_length i (l ∷ ls) bases = lanes_length (i + 1) ls (store_lane (32 * i) l bases) ∙ lane_length (32 * i) l bases

-- ---- a lane, from its end

lane_past : (ws es : List ℕ) → lane_of ws (drop (length (lane_of ws es)) es) ≡ []
unfolding lane_of
lane_past ws [] = refl
lane_past ws (zero ∷ es) = refl
lane_past ws (suc p ∷ es) = lane_past ws es

lane_named : (ws es : List ℕ) (r : ℕ) → r < length (lane_of ws es) → 0 < get_or es r 0
unfolding lane_of
lane_named ws [] r h = absurd (not-suc-le-zero h)
lane_named ws (zero ∷ es) r h = absurd (not-suc-le-zero h)
lane_named ws (suc p ∷ es) zero h = omega arith
lane_named ws (suc p ∷ es) (suc r) h = lane_named ws es r (omega arith)

-- the pairs of lane j from round r on are stored, and their bits are counted
pub record Walked (ws t : List ℕ) (j : ℕ) (bases₀ bases : List ℕ) (r sum : ℕ) : Type 0 where
  pub within : r ≤ length (lane_of ws (row_at t j))
  pub few : r ≤ 32
  pub stored : bases ≡ store_lane (32 * j) (lane_of ws (drop r (row_at t j))) bases₀
  pub counted : sum ≡ 32 * j + total (lane_of ws (drop r (row_at t j)))

module _ (ws t : List ℕ) (j : ℕ) (row : LaneRowIn ws t j) (bases₀ : List ℕ) where
  short : length (lane_of ws (row_at t j)) ≤ 32
  short = omega (arith, row_short ws (row_at t j), row.row.short)

  pub walked_start : (r : ℕ) → r ≡ length (lane_of ws (row_at t j)) → Walked ws t j bases₀ bases₀ r (32 * j)
  unfolding store_lane total
  walked_start r e =
      let n : lane_of ws (drop r (row_at t j)) ≡ [] = rw e (lane_past ws (row_at t j)) in
      record { within = omega arith; few = omega (arith, short); stored = rw n; counted = rw n (omega arith) }

  module _ (bases : List ℕ) (r sum e : ℕ) (w : Walked ws t j bases₀ bases r sum) (some_left : 0 < r) (is : e ≡ get_or t (32 * j + (r - 1)) 0) where
    at_row : e ≡ get_or (row_at t j) (r - 1) 0
    at_row = is ∙ sym (row_at_word t j (r - 1) (omega (arith, w.within, short)))

    in_row : r - 1 < length (row_at t j)
    in_row = omega (arith, w.within, row_short ws (row_at t j))

    pub walked_entry : (0 < e) × (e ≤ length ws / 2)
    walked_entry = (rw at_row (lane_named ws (row_at t j) (r - 1) (omega (arith, w.within))), rw at_row (row.row.named (r - 1) in_row))

    pub walked_sum : sum ≤ 32 * j + 1024
    walked_sum =
        let le : length (lane_of ws (drop r (row_at t j))) ≤ 32 =
        omega (arith, row_short ws (drop r (row_at t j)), length-drop r (row_at t j), row.row.short) in
        omega (arith, w.counted, total_le (lane_of ws (drop r (row_at t j))))

    pub walked_on : (bases' : List ℕ) (n : ℕ) → bases' ≡ set bases (e - 1) sum → n ≡ pop (get_or ws (2 * e - 1) 0) → Walked ws t j bases₀ bases' (r - 1) (sum + n)
    unfolding store_lane
    walked_on bases' n eb en =
        let next : r - 1 + 1 ≡ r = omega arith in
        let named : 0 < get_or (row_at t j) (r - 1) 0 = rw (← at_row) walked_entry.0 in
        let pair = row_pair ws (row_at t j) (r - 1) in_row named in
        let bits = row_total_on ws (row_at t j) (r - 1) in_row named in
        record {
          within = omega (arith, w.within);
          few = omega (arith, w.few);
          stored = eb ∙ (rw (pair, next, ← at_row, store_lane, ← w.stored, ← w.counted));
          counted = omega (arith, w.counted, rw (next, ← at_row) at bits);
        }

-- ---- all lanes

pub lanes_count : (ws t : List ℕ) (n : ℕ) → length (lanes_at ws t n) ≡ n
unfolding lanes_at
lanes_count ws t zero = refl
lanes_count ws t (suc n) = ap suc (lanes_count ws (drop 32 t) n)

module _ (ws t : List ℕ) (n : ℕ) where
  lanes-from : (j : ℕ) → j < n → drop j (lanes_at ws t n) ≡ lane_of ws (row_at t j) ∷ drop (j + 1) (lanes_at ws t n)
  lanes-from j h =
      let there : j < length (lanes_at ws t n) = omega (arith, lanes_count ws t n) in
      drop-cons (lanes_at ws t n) j [] there ∙ rw (add-one, lane_at ws t n j h)

  abbrev pub lanesLeft : ℕ → List ℕ → List ℕ
  lanesLeft j bases = store_lanes j (drop j (lanes_at ws t n)) bases

  pub lanes_on : (j : ℕ) (bases bases' : List ℕ) → j < n → bases' ≡ store_lane (32 * j) (lane_of ws (row_at t j)) bases → lanesLeft (j + 1) bases' ≡ lanesLeft j bases
  unfolding store_lanes
  lanes_on j bases bases' h e = rw (lanes-from j h, e, store_lanes)

  pub lanes_end : (j : ℕ) (bases : List ℕ) → n ≤ j → lanesLeft j bases ≡ bases
  unfolding store_lanes
  lanes_end j bases h =
      let q : length (lanes_at ws t n) ≤ j = omega (arith, lanes_count ws t n) in
      rw (drop_of_length-le (lanes_at ws t n) q)

pub readable_row : {ws t : List ℕ} {n j : ℕ} → TableReadable ws t n → j < n → LaneRowIn ws t j
readable_row r h = filled_row r.filled _ h
