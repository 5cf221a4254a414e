-- What `place` asks of its calls and tells of them, over plain values: b is the count of the mask's bits, r what the search answered.
-- Assumes nothing.
use mathlib.Core.Path.{◌≡◌, refl, sym, ap, ◌∙◌}
use mathlib.Core.Option.{none, some}
use mathlib.Core.List.{List, [], ◌++◌}
use Prim.Native.Nat.{ℕ, ◌+◌, ◌*◌, ◌≤◌, ◌<◌}
use native.Mathlib.Omega.{arith}
use lib.ListN.{length, get_or, set, drop}
use Rattle.words.specs.Bit.{pop}
use Rattle.words.specs.Round.{next}
use Rattle.reads.specs.ReadSet.{total}
use Rattle.reads.specs.Search.{Lane, push}
use Rattle.std.specs.Prelude.{Some, None}
use Rattle.std.specs.declared.option.Option as code
use Rattle.words.specs.Found.{item_of}
use Rattle.words.proofs.FoundLaws.{item_some, item_none}
use Rattle.reads_try.specs.LaneTable.{table_of, used_of, held_of}
use Rattle.reads_try.specs.TableLanes.{pair_at, lanes_at, put_in_lane}
use Rattle.reads_try.specs.Tries.{first_free, lane_for, next_of, lanes_after, LanesSearchable, PairPuttable, PairPlaceable}
use Rattle.reads.proofs.SearchLaws.{room_found}
use Rattle.reads_try.proofs.SetPairLaws.{mask_bits_le}
use Rattle.reads_try.proofs.LaneTableLaws.{filled_in_room, filled_free, filled_put}
use Rattle.reads_try.proofs.LaneLoadLaws.{used_long, held_long, used_at, held_at, used_push, held_push, free_room}

-- ---- a pair is placed

-- the lanes that `place` leaves
abbrev pub lanes_then : (set room : List ℕ) (n cur p : ℕ) → List Lane
lanes_then set room n cur p = lanes_after (lane_for set room n cur p) (lanes_at set room n) (pair_at set p)

-- what `place` ensures
abbrev pub PairPlaced : (set room : List ℕ) (n cur p : ℕ) → code.Option ℕ → (room' used' held' : List ℕ) → Type 0
PairPlaced set room n cur p r room' used' held' =
    (r ≡ item_of (next_of n (lane_for set room n cur p)))
    × ((room' ≡ table_of (lanes_then set room n cur p) ++ drop (32 * n) room)
    × ((used' ≡ used_of (lanes_then set room n cur p)) × (held' ≡ held_of (lanes_then set room n cur p))))

module _ (ws room used held : List ℕ) (n cur p : ℕ) (h : PairPlaceable ws room used held n cur p) (b : ℕ) (eb : b ≡ pop (get_or ws (2 * p + 1) 0)) where
  pub place_search : LanesSearchable (length used) n cur b
  place_search = record { in-used = omega (arith, used_long h.loaded, h.filled.kept.wide); lane = h.lane; mask = mask_bits_le b _ eb }

  module _ (r : code.Option ℕ) (er : r ≡ item_of (first_free n n used b cur)) where
    answer : r ≡ item_of (lane_for ws room n cur p)
    answer =
        let same : first_free n n used b cur ≡ lane_for ws room n cur p = rw (h.loaded.bits_are, eb) (free_room n n (lanes_at ws room n) _ cur) in
        er ∙ ap item_of same

    pub place_full : r ≡ None → PairPlaced ws room n cur p None room used held
    place_full f =
        let e : lane_for ws room n cur p ≡ none = item_none _ (sym answer ∙ f) in
        rw e (refl, (h.filled.table, (h.loaded.bits_are, h.loaded.pairs-are)))

    module _ (j : ℕ) (f : r ≡ Some j) where
      found : lane_for ws room n cur p ≡ some j
      found = item_some _ j (sym answer ∙ f)

      pub place_lt : j < n
      place_lt = (room_found n n (lanes_at ws room n) _ cur j h.lane found).0

      used-now : get_or used j 0 ≡ total (get_or (lanes_at ws room n) j [])
      used-now = ap (λ (x : List ℕ). get_or x j 0) h.loaded.bits_are ∙ used_at (lanes_at ws room n) j

      held-now : get_or held j 0 ≡ length (get_or (lanes_at ws room n) j [])
      held-now = ap (λ (x : List ℕ). get_or x j 0) h.loaded.pairs-are ∙ held_at (lanes_at ws room n) j

      fits-now : total (get_or (lanes_at ws room n) j []) + pop (get_or ws (2 * p + 1) 0) ≤ 32
      fits-now = (room_found n n (lanes_at ws room n) _ cur j h.lane found).1

      free-now : length (get_or (lanes_at ws room n) j []) < 32
      free-now = filled_free h.filled j _ place_lt h.some_bits fits-now

      pub place_put : PairPuttable (length room) used held j p b
      place_put = record {
        in-used = omega (arith, used_long h.loaded, h.filled.kept.wide, place_lt);
        in_held = omega (arith, held_long h.loaded, h.filled.kept.wide, place_lt);
        fits = omega (arith, used-now, fits-now, eb);
        free = omega (arith, held-now, free-now);
        in-room = omega (arith, held-now, free-now, place_lt, filled_in_room h.filled);
        pair = omega (arith, h.pair, h.pairs);
      }

      pub place_lane : (i : ℕ) (room' used' held' : List ℕ) → i ≡ next n j → room' ≡ put_in_lane room j (get_or held j 0) p
          → used' ≡ set used j (get_or used j 0 + b) → held' ≡ set held j (get_or held j 0 + 1) → PairPlaced ws room n cur p (Some i) room' used' held'
      place_lane i room' used' held' en er eu eh =
          let ls = lanes_at ws room n in
          let tabled : room' ≡ table_of (push ls j (pair_at ws p)) ++ drop (32 * n) room = er ∙ (rw held-now (filled_put h.filled j p place_lt free-now)) in
          let bits-then : used' ≡ used_of (push ls j (pair_at ws p)) = eu ∙ (rw (h.loaded.bits_are, eb) (sym (used_push ls j (pair_at ws p)))) in
          let pairs-then : held' ≡ held_of (push ls j (pair_at ws p)) = eh ∙ (rw h.loaded.pairs-are (sym (held_push ls j (pair_at ws p)))) in
          rw found (ap Some en, (tabled, (bits-then, pairs-then)))
