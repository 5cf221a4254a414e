-- What is kept of the lanes in any try; what holds while a try runs, and that one pair more keeps it.
-- Assumes nothing.
use mathlib.Core.Path.{◌≡◌, refl, sym, ap, ◌∙◌}
use mathlib.Core.Option.{Option, none, some}
use mathlib.Core.List.{List, [], ◌∷◌, ◌++◌}
use Prim.Native.Nat.{ℕ, ◌+◌, ◌*◌, ◌/◌, ◌%◌, min, ◌≤◌, ◌<◌}
use native.Mathlib.Numerals.{add-one}
use native.Mathlib.Omega.{arith}
use lib.ListN.{length, get_or, drop, replicate, length-append, drop_of_length-le, take-append-drop}
use lib.Seq.{slice, drop-cons}
use Rattle.words.specs.Bit.{pop}
use Rattle.reads.specs.ReadSet.{Pair, bits, pairs_of}
use Rattle.words.specs.Round.{next}
use Rattle.reads.specs.Search.{Lane, first_room, push, Tried, stuck, try_from}
use Rattle.words.proofs.RoundLaws.{next_lt}
use Rattle.reads.proofs.SearchLaws.{room_found}
use Rattle.std.specs.Prelude.{⊤, Some, None, Ok, Err}
use Rattle.std.specs.declared.option.Option as code
use Rattle.std.specs.declared.result.Result.{Result}
use Rattle.reads_try.specs.declared.Stuck.{Stuck}
use Rattle.reads_try.specs.LaneTable.{table_of, used_of, held_of, piece_of, run_of}
use Rattle.reads_try.specs.TableLanes.{pair_at, lanes_at, Each, Drawn, SoundLanes, LanesTabled, LanesLoaded}
use Rattle.reads_try.specs.Tries.{lane_for, ending_of, tried_lanes, tried_of, PairPlaceable, TryReady}
use Rattle.reads_try.proofs.SetPairLaws.{pairs_length, pairs_at, slice_none, span_step, piece_slice}
use Rattle.reads_try.proofs.LaneTableLaws.{each_append, each_of, each_take, each_drop, kept_push, kept_empty, table_length, table_empty, filled_lanes, filled_rest, filled_of}
use Rattle.reads_try.proofs.LaneLoadLaws.{used_long, held_long, used_empty, held_empty}
use Rattle.reads_try.proofs.PairPlacedLaws.{PairPlaced}

-- ---- what any try keeps of the lanes

pub try_kept : (ws : List ℕ) (n : ℕ) (run : List Pair) (lanes : List Lane) (j : ℕ) → j < n → Each (Drawn ws) run → SoundLanes ws n lanes
    → SoundLanes ws n (tried_lanes (try_from n run lanes j))
unfolding try_from
try_kept ws n [] lanes j h d k = k
try_kept ws n (p ∷ run) lanes j h d k = go (first_room n n lanes (bits p) j) refl (λ i l q. try_kept ws n run (push lanes i p) (next n i) l d.1 q)
  where
    go : (o : Option ℕ) → first_room n n lanes (bits p) j ≡ o
        → ((i : ℕ) → next n i < n → SoundLanes ws n (push lanes i p) → SoundLanes ws n (tried_lanes (try_from n run (push lanes i p) (next n i))))
        → SoundLanes ws n (tried_lanes (try_from n (p ∷ run) lanes j))
    go none e r = rw (e, try_from) k
    go (some i) e r =
        let f = room_found n n lanes (bits p) j i h e in
        rw (e, try_from) (r i (next_lt n i f.0) (kept_push k i p f.0 f.1 d.0))

-- a set of whole pairs with no mask that is 0
module _ (ws : List ℕ) (whole : length ws % 2 ≡ 0) (masks : (p : ℕ) → p < length ws / 2 → 0 < pop (get_or ws (2 * p + 1) 0)) where
  pub pair_drawn : (p : ℕ) → p < length ws / 2 → Drawn ws (pair_at ws p)
  pair_drawn p h = record { in_set = h; same = refl; some_bits = masks p h }

  pub pairs_drawn : Each (Drawn ws) (pairs_of ws)
  pairs_drawn =
      each_of (Drawn ws) (pairs_of ws) (pair_at ws 0) (λ i h.
      let l : i < length ws / 2 = omega (arith, pairs_length 0 ws) in
      rw (pairs_at ws i (pair_at ws 0) l) (pair_drawn i l))

  pub run_drawn : (k : ℕ) (keys : List ℕ) → Each (Drawn ws) (run_of k (pairs_of ws) keys)
  unfolding run_of
  run_drawn k [] = tt
  run_drawn k (x ∷ keys) =
      each_append (Drawn ws) (piece_of k (pairs_of ws) (x % 8192)) _ (each_take (Drawn ws) k _ (each_drop (Drawn ws) (x % 8192 * k) (pairs_of ws) pairs_drawn)) (run_drawn k keys)

  -- the lanes of a try of it
  pub tried_kept : (n k : ℕ) (keys : List ℕ) → 0 < n → SoundLanes ws n (tried_lanes (tried_of n k ws keys))
  tried_kept n k keys h = try_kept ws n (run_of k (pairs_of ws) keys) (replicate n []) 0 h (run_drawn k keys) (kept_empty ws n)

-- ---- what holds while a try runs

-- the room holds kept lanes, with their running numbers, and rest after them; run is still to be placed, from lane cur on, and the try will end
-- in goal
pub record Held (ws : List ℕ) (n : ℕ) (rest : List ℕ) (goal : Tried) (run : List Pair) (room used held : List ℕ) (cur : ℕ) : Type 0 where
  pub filled : LanesTabled ws room n
  pub loaded : LanesLoaded (lanes_at ws room n) used held
  pub rest_is : drop (32 * n) room ≡ rest
  pub lane : cur < n
  pub ends : try_from n run (lanes_at ws room n) cur ≡ goal

-- how a try ends
abbrev pub Ended : Tried → List ℕ → Result ⊤ Stuck → (room used held : List ℕ) → Type 0
Ended goal rest r room used held =
    (r ≡ ending_of goal) × ((room ≡ table_of (tried_lanes goal) ++ rest) × ((used ≡ used_of (tried_lanes goal)) × (held ≡ held_of (tried_lanes goal))))

module _ {ws : List ℕ} {n : ℕ} {rest : List ℕ} {goal : Tried} where
  pub held_room : {run : List Pair} {room used held : List ℕ} {cur : ℕ} → Held ws n rest goal run room used held cur → room ≡ table_of (lanes_at ws room n) ++ rest
  held_room {room = room} h = h.filled.table ∙ ap (λ (x : List ℕ). table_of (lanes_at ws room n) ++ x) h.rest_is

  pub held_length : {run : List Pair} {room used held : List ℕ} {cur : ℕ} → Held ws n rest goal run room used held cur → length room ≡ 32 * n + length rest
  held_length {room = room} h =
      omega (arith, ap length (held_room h), length-append (table_of (lanes_at ws room n)) rest, table_length (lanes_at ws room n), h.filled.kept.wide)

  pub held_used : {run : List Pair} {room used held : List ℕ} {cur : ℕ} → Held ws n rest goal run room used held cur → length used ≡ n
  held_used h = used_long h.loaded ∙ h.filled.kept.wide

  pub held_held : {run : List Pair} {room used held : List ℕ} {cur : ℕ} → Held ws n rest goal run room used held cur → length held ≡ n
  held_held h = held_long h.loaded ∙ h.filled.kept.wide

  -- all is placed
  pub held_all : {room used held : List ℕ} {cur : ℕ} → Held ws n rest goal [] room used held cur → Ended goal rest (Ok tt) room used held
  unfolding try_from
  held_all h = rw (← h.ends) (refl, (held_room h, (h.loaded.bits_are, h.loaded.pairs-are)))

  module _ {p : ℕ} {run : List Pair} {room used held : List ℕ} {cur : ℕ} (h : Held ws n rest goal (pair_at ws p ∷ run) room used held cur)
      (r : code.Option ℕ) (room' used' held' : List ℕ) (placed : PairPlaced ws room n cur p r room' used' held') where
    -- the lane that is found takes the pair
    pub held_step : Drawn ws (pair_at ws p) → (j : ℕ) → r ≡ Some j → Held ws n rest goal run room' used' held' j
    unfolding try_from
    held_step d j f = go (lane_for ws room n cur p) refl
      where
        go : (o : Option ℕ) → lane_for ws room n cur p ≡ o → Held ws n rest goal run room' used' held' j
        go none e =
            let q : None ≡ Some j = sym (rw e at placed.0) ∙ f in
            let z : ◌≡◌ {A = ℕ} 0 1 = cc in
            absurd (omega arith)
        go (some i) e =
            let q : Some (next n i) ≡ Some j = sym (rw e at placed.0) ∙ f in
            let on : next n i ≡ j = cc in
            let x = room_found n n (lanes_at ws room n) (bits (pair_at ws p)) cur i h.lane e in
            let k = kept_push h.filled.kept i (pair_at ws p) x.0 x.1 d in
            let t = rw e at placed.1.0 in
            let read : lanes_at ws room' n ≡ push (lanes_at ws room n) i (pair_at ws p) = filled_lanes k _ t in
            record {
              filled = filled_of k _ t;
              loaded = record { bits_are = rw read (rw e at placed.1.1.0); pairs-are = rw read (rw e at placed.1.1.1) };
              rest_is = filled_rest k _ t ∙ h.rest_is;
              lane = rw (← on) (next_lt n i x.0);
              ends = rw (read, ← on) (rw (e, try_from) at h.ends);
            }

    -- no lane has room
    pub held_stop : r ≡ None → Ended goal rest (Err (record { word = get_or ws (2 * p) 0 })) room' used' held'
    unfolding try_from
    held_stop f = go (lane_for ws room n cur p) refl
      where
        go : (o : Option ℕ) → lane_for ws room n cur p ≡ o → Ended goal rest (Err (record { word = get_or ws (2 * p) 0 })) room' used' held'
        go none e =
            let s : stuck (pair_at ws p) (lanes_at ws room n) ≡ goal = rw (e, try_from) at h.ends in
            let tabled = (rw e at placed.1.0) ∙ ap (λ (x : List ℕ). table_of (lanes_at ws room n) ++ x) h.rest_is in
            rw (← s) (refl, (tabled, (rw e at placed.1.1.0, rw e at placed.1.1.1)))
        go (some i) e =
            let q : Some (next n i) ≡ None = sym (rw e at placed.0) ∙ f in
            let z : ◌≡◌ {A = ℕ} 0 1 = cc in
            absurd (omega arith)

-- ---- the two loops

-- Pairs p to e of a piece, and the pieces after it, are still to be placed, as they were from p₀ on: whatever the try was to end in, it is to
-- end in now.
abbrev pub Piece : (ws : List ℕ) (n p₀ e : ℕ) (room₀ used₀ held₀ : List ℕ) (cur₀ p : ℕ) (room used held : List ℕ) (cur : ℕ) → Type 0
Piece ws n p₀ e room₀ used₀ held₀ cur₀ p room used held cur =
    (rest : List ℕ) (goal : Tried) (tail : List Pair)
    → Held ws n rest goal (slice p₀ e (pairs_of ws) ++ tail) room₀ used₀ held₀ cur₀
    → Held ws n rest goal (slice p e (pairs_of ws) ++ tail) room used held cur

module _ {ws room₀ used₀ held₀ : List ℕ} {n k : ℕ} (ready : TryReady ws room₀ used₀ held₀ n k) where
  pub held_start : (keys : List ℕ) → Held ws n (drop (32 * n) room₀) (tried_of n k ws keys) (run_of k (pairs_of ws) keys) room₀ used₀ held₀ 0
  held_start keys =
      let t : room₀ ≡ table_of (replicate n []) ++ drop (32 * n) room₀ =
      sym (take-append-drop (32 * n) room₀) ∙ ap (λ (x : List ℕ). x ++ drop (32 * n) room₀) (ready.empty ∙ sym (table_empty n)) in
      let q = kept_empty ws n in
      let read : lanes_at ws room₀ n ≡ replicate n [] = filled_lanes q _ t in
      record {
        filled = filled_of q _ t;
        loaded = record { bits_are = rw read (ready.no_bits ∙ sym (used_empty n)); pairs-are = rw read (ready.no_pairs ∙ sym (held_empty n)) };
        rest_is = refl;
        lane = ready.some_lanes;
        ends = ap (λ (x : List Lane). try_from n (run_of k (pairs_of ws) keys) x 0) read;
      }

  module _ {rest : List ℕ} {goal : Tried} where
    -- what `place` asks
    pub held_placeable : {run : List Pair} {room used held : List ℕ} {cur : ℕ} → Held ws n rest goal run room used held cur → (p : ℕ) → p < length ws / 2
        → PairPlaceable ws room used held n cur p
    held_placeable h p l = record {
      lane = h.lane;
      pairs = ready.pairs;
      pair = l;
      some_bits = ready.masks p l;
      filled = h.filled;
      loaded = h.loaded;
    }

    -- a key is read, and its piece comes next
    pub run_step : (keys : List ℕ) (t : ℕ) {room used held : List ℕ} {cur : ℕ} → t < length keys
        → Held ws n rest goal (run_of k (pairs_of ws) (drop t keys)) room used held cur
        → (i e : ℕ) → i ≡ get_or keys t 0 % 8192 → e ≡ min (i * k + k) (length ws / 2)
        → Held ws n rest goal (slice (i * k) e (pairs_of ws) ++ run_of k (pairs_of ws) (drop (t + 1) keys)) room used held cur
    unfolding run_of
    run_step keys t h H i e ei ee =
        let d : drop t keys ≡ get_or keys t 0 ∷ drop (t + 1) keys = drop-cons keys t 0 h ∙ rw (add-one t) in
        let long : length (pairs_of ws) ≡ length ws / 2 = omega (arith, pairs_length 0 ws, ready.whole) in
        let q : piece_of k (pairs_of ws) i ≡ slice (i * k) e (pairs_of ws) = piece_slice k (pairs_of ws) i ∙ rw (long, ee) in
        rw (← q, ei) (rw d at H)

  -- a pair is placed, and the one after it comes next
  pub piece_step : (p₀ e : ℕ) (room used held : List ℕ) (cur₀ p : ℕ) (room₁ used₁ held₁ : List ℕ) (cur : ℕ)
      → Piece ws n p₀ e room used held cur₀ p room₁ used₁ held₁ cur → p < e → e ≤ length ws / 2
      → (r : code.Option ℕ) (room₂ used₂ held₂ : List ℕ) → PairPlaced ws room₁ n cur p r room₂ used₂ held₂ → (j : ℕ) → r ≡ Some j
      → Piece ws n p₀ e room used held cur₀ (p + 1) room₂ used₂ held₂ j
  piece_step p₀ e room used held cur₀ p room₁ used₁ held₁ cur P h l r room₂ used₂ held₂ placed j f rest goal tail H =
      held_step (rw (span_step ws p e h l) at (P rest goal tail H)) r room₂ used₂ held₂ placed (pair_drawn ws ready.whole ready.masks p (omega arith)) j f

-- the piece is through
pub run_next : {ws : List ℕ} {n : ℕ} {rest : List ℕ} {goal : Tried} (p e : ℕ) (tail : List Pair) {room used held : List ℕ} {cur : ℕ} → e ≤ p
    → Held ws n rest goal (slice p e (pairs_of ws) ++ tail) room used held cur → Held ws n rest goal tail room used held cur
run_next {ws} p e tail h H = rw (slice_none p e (pairs_of ws) h) at H

-- so are all
pub run_ended : {ws : List ℕ} {n : ℕ} {rest : List ℕ} {goal : Tried} (k : ℕ) (keys : List ℕ) (t : ℕ) {room used held : List ℕ} {cur : ℕ} → length keys ≤ t
    → Held ws n rest goal (run_of k (pairs_of ws) (drop t keys)) room used held cur → Ended goal rest (Ok tt) room used held
unfolding run_of
run_ended k keys t h H = held_all (rw (drop_of_length-le keys h) at H)
