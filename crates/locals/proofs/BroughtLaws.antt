-- Which answer each way through the code has; and a bit that is asked for stands where the table's lanes say it.
-- Assumes nothing.
use mathlib.Core.Path.{◌≡◌, sym, ap, ◌∙◌}
use mathlib.Core.Bool.{true, false}
use mathlib.Core.Option.{some}
use mathlib.Core.List.{List}
use Prim.Native.Nat.{ℕ, ◌+◌, ◌*◌, ◌/◌, ◌%◌, ◌^◌, ◌≤◌, ◌<◌}
use native.Mathlib.Omega.{arith}
use borrow.Author.Tests.{le-leb, lt-leb}
use lib.Dec.{leb}
use lib.ListN.{length, get_or, replicate, length-replicate}
use Rattle.words.specs.Answer.{Answer, good, refused, at_item, nowhere}
use Rattle.words.specs.Edition.{known}
use Rattle.words.specs.declared.refusals.Refusal.{Refusal}
use Rattle.words.specs.declared.units.LocalPosition.{LocalPosition}
use Rattle.reads.specs.ReadSet.{pairs_of, broken}
use Rattle.reads.specs.Search.{Lane, lanes_of}
use Rattle.reads.specs.Local.{local_of}
use Rattle.reads.specs.SetAnswer.{Packed, packed, read_set, set_room_after}
use Rattle.reads.proofs.LocalLaws.{Requested}
use Rattle.reads.proofs.SetAnswerLaws.{Sound, placed_lanes, placed_sound}
use Rattle.reads_try.specs.TableLanes.{lanes_at}
use Rattle.reads_try.proofs.SetPairLaws.{pairs_length}
use Rattle.reads_section.specs.Readout.{TableReadable}
use Rattle.reads_local.specs.Bases.{local_by}
use Rattle.reads_local.proofs.LocalPositionLaws.{LocalAt, local_is}
use Rattle.rounds.specs.Rounds.{table_after, SetSearchable}
use Rattle.rounds.proofs.RoundsAnswerLaws.{searchable, is_read, won_table}
use Rattle.std.specs.Prelude.{Some, None, Ok, Err}
use Rattle.std.specs.declared.option.Option as code
use Rattle.std.specs.declared.result.Result.{Result}
use Rattle.locals.specs.LocalAnswer.{asks_for, brought_by, brought_in, edition_local, local_answer}
use Rattle.locals.specs.Bring.{brought_of, Formed, RowsLent, beginnings, BitFindable}
use Rattle.locals.proofs.AsksLaws.{asked_at, asked_requested, asks_low}

-- ---- a set in form

module _ (n : ℕ) (ws : List ℕ) (formed : Formed ws) (fits : (i : ℕ) → get_or ws i 0 < 2 ^ 32) (t : ℕ) (tabled : RowsLent n t) where
  pub in_form : SetSearchable ws t 8192 8192 n
  in_form =
      searchable
      (record { room = tabled.room; some_lanes = tabled.some_lanes; few-lanes = tabled.few-lanes; keys-room = omega arith; scratch-room = omega arith })
      formed.few formed.form fits

  -- it is placed, and the table has its lanes
  module _ (x : Packed) (placed : packed n (pairs_of ws) ≡ good x) (table : List ℕ) (held : table ≡ table_after n (lanes_of n (pairs_of ws))) (long : length table ≡ t) where
    readable : TableReadable ws table n × (lanes_at ws table n ≡ x.lanes)
    readable = won_table in_form x.lanes table (placed_lanes n (pairs_of ws) x placed) held (long ∙ tabled.room)

    sound : Sound n (pairs_of ws) (record { size = x.size; lanes = lanes_at ws table n })
    sound = rw readable.1 (placed_sound n ws x tabled.some_lanes fits (is_read n ws 0 formed.few formed.form ∙ placed))

    -- it asks for bit k of word w
    module _ (w k : ℕ) (asks : asks_for (pairs_of ws) w k ≡ true) where
      small : k < 32
      small = asks_low ws w k fits asks

      word_is : (32 * w + k) / 32 ≡ w
      word_is = omega (arith, small)

      bit_is : (32 * w + k) % 32 ≡ k
      bit_is = omega (arith, small)

      here : LocalAt n ws (lanes_at ws table n) (beginnings n ws table) (32 * w + k)
      here =
          let requested : Requested (pairs_of ws) ((32 * w + k) / 32) ((32 * w + k) % 32) = rw (word_is, bit_is) (asked_requested ws w k (asked_at 0 ws w k asks)) in
          let room : length ws / 2 ≤ length (replicate {A = ℕ} 8192 0) = omega (arith, length-replicate {A = ℕ} 8192 0, formed.few) in
          local_is n ws (lanes_at ws table n) tabled.few-lanes sound readable.0.filled.kept (replicate 8192 0) room (32 * w + k) requested

      pub findable : BitFindable n ws table (32 * w + k)
      findable = record { few = formed.few; readable = readable.0; there = here.placeable }

      position : local_of x.lanes w k ≡ some (local_by ws (beginnings n ws table) (32 * w + k))
      position =
          let there : local_of (lanes_at ws table n) w k ≡ some (local_by ws (beginnings n ws table) (32 * w + k)) = rw (word_is, bit_is) at here.is in
          ap (λ (lanes : List Lane). local_of lanes w k) (sym readable.1) ∙ there

      pub to_told : (r : LocalPosition) → r.0 ≡ local_by ws (beginnings n ws table) (32 * w + k) → Ok (Some r) ≡ brought_of (brought_in (pairs_of ws) w k (packed n (pairs_of ws)))
      unfolding brought_in brought_by
      to_told r is = rw (placed, brought_in, asks, brought_by, position, ← is)

pub unasked_told : (n : ℕ) (ws : List ℕ) (x : Packed) (w k : ℕ) → packed n (pairs_of ws) ≡ good x → asks_for (pairs_of ws) w k ≡ false
    → Ok None ≡ brought_of (brought_in (pairs_of ws) w k (packed n (pairs_of ws)))
unfolding brought_in brought_by
unasked_told n ws x w k placed not = rw (placed, brought_in, not, brought_by)

-- ---- what is told of a placed set: each bit that it asks for has a position of its own, below 32n

module _ (n : ℕ) (some_lanes : 0 < n) (ws : List ℕ) (x : Packed) (fits : (i : ℕ) → get_or ws i 0 < 2 ^ 32) (placed : read_set n (pairs_of ws) ≡ good x) where
  requests : (w k : ℕ) → asks_for (pairs_of ws) w k ≡ true → Requested (pairs_of ws) w k
  requests w k asks = asked_requested ws w k (asked_at 0 ws w k asks)

  told_is : (w k : ℕ) → asks_for (pairs_of ws) w k ≡ true → brought_by (pairs_of ws) w k x ≡ local_of x.lanes w k
  unfolding brought_by
  told_is w k asks = rw (asks, brought_by)

  pub told_below : (w k : ℕ) → asks_for (pairs_of ws) w k ≡ true → (p : ℕ) × (brought_by (pairs_of ws) w k x ≡ some p) × (p < 32 * n)
  told_below w k asks =
      let sound = placed_sound n ws x some_lanes fits placed in
      let (p, is, low) = sound.positions.below w k (requests w k asks) in
      (p, told_is w k asks ∙ is, low)

  pub told_own : (w k v j : ℕ) → asks_for (pairs_of ws) w k ≡ true → asks_for (pairs_of ws) v j ≡ true
      → brought_by (pairs_of ws) w k x ≡ brought_by (pairs_of ws) v j x → (w ≡ v) × (k ≡ j)
  told_own w k v j asks also same =
      let sound = placed_sound n ws x some_lanes fits placed in
      sound.positions.own w k v j (requests w k asks) (requests v j also) (sym (told_is w k asks) ∙ same ∙ told_is v j also)

-- ---- a set that is refused

pub lost_told : (ws : List ℕ) (w k : ℕ) (D : Answer Packed) (q : Refusal) → D ≡ refused q → Err q ≡ brought_of (brought_in (pairs_of ws) w k D)
unfolding brought_in
lost_told ws w k D q e = rw (e, brought_in)

pub read_many : (n : ℕ) (ws : List ℕ) → 16384 < length ws → read_set n (pairs_of ws) ≡ refused (nowhere 1)
unfolding read_set
read_many n ws h = rw (lt-leb (length (pairs_of ws)) 8192 (omega (arith, pairs_length 0 ws)), read_set)

pub read_bad : (n : ℕ) (ws : List ℕ) (i : ℕ) → length ws ≤ 16384 → broken (pairs_of ws) ≡ some i → read_set n (pairs_of ws) ≡ refused (at_item 2 i)
unfolding read_set
read_bad n ws i h e = rw (le-leb (length (pairs_of ws)) 8192 (omega (arith, pairs_length 0 ws)), e, read_set)

-- ---- 32 before all others, then 29, and the room

module _ (n : ℕ) (ws : List ℕ) (w k : ℕ) where
  pub told_unknown : known n ≡ false → (q : Refusal) → q ≡ nowhere 29 → Err q ≡ brought_of (edition_local n ws w k)
  unfolding edition_local
  told_unknown h q e = rw (h, edition_local) (ap Err e)

  pub told_known : known n ≡ true → (r : Result (code.Option LocalPosition) Refusal) → r ≡ brought_of (brought_in (pairs_of ws) w k (read_set n (pairs_of ws))) → r ≡ brought_of (edition_local n ws w k)
  unfolding edition_local
  told_known h r e = rw (h, edition_local) e

-- what is promised of an answer and a room
abbrev pub Told : (n : ℕ) (ws room : List ℕ) (w k : ℕ) → Result (code.Option LocalPosition) Refusal → List ℕ → Type 0
Told n ws room w k r room' = (r ≡ brought_of (local_answer n ws (length room) w k)) × (room' ≡ set_room_after room)

pub short_room : (n : ℕ) (ws room : List ℕ) (w k : ℕ) (q : Refusal) → length room < 16384 → q ≡ nowhere 32 → Told n ws room w k (Err q) room
unfolding local_answer set_room_after
short_room n ws room w k q h e =
    let t : leb 16384 (length room) ≡ false = lt-leb 16384 (length room) h in
    (rw (t, local_answer) (ap Err e), rw (t, set_room_after))

pub long_room : (n : ℕ) (ws room : List ℕ) (w k : ℕ) (r : Result (code.Option LocalPosition) Refusal) (room' used : List ℕ) → 16384 ≤ length room → r ≡ brought_of (edition_local n ws w k)
    → room' ≡ replicate (length used) 0 → length used ≡ length room → Told n ws room w k r room'
unfolding local_answer set_room_after
long_room n ws room w k r room' used h er em long =
    let t : leb 16384 (length room) ≡ true = le-leb 16384 (length room) h in
    (rw (t, local_answer) er, em ∙ rw (t, set_room_after, long))
