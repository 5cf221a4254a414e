-- What callers of a placed outcome need: it has a packing of the set, with piece size 0, and passed the refusals before it; and our own search's lanes
-- are placed, also where they are handed in as words.
-- Assumes nothing.
use mathlib.Core.Path.{◌≡◌, refl, sym, ap, ◌∙◌}
use mathlib.Core.Bool.{Bool, true, false}
use mathlib.Core.Option.{Option, none, some}
use mathlib.Core.List.{List}
use Prim.Native.Nat.{ℕ, ◌*◌, ◌^◌, ◌≤◌, ◌<◌}
use native.Mathlib.Omega.{arith}
use borrow.Author.Tests.{leb-true, ltb-true, lt-ltb}
use lib.Dec.{leb, ltb}
use lib.ListN.{length, get_or}
use Rattle.words.specs.Answer.{good}
use Rattle.words.proofs.AnswerLaws.{refused_good}
use Rattle.reads.specs.ReadSet.{Pair, pairs_of, broken}
use Rattle.reads.specs.Search.{Lane, lanes_of, longest}
use Rattle.reads.specs.Packing.{times, Packing}
use Rattle.reads.specs.SetAnswer.{Packed}
use Rattle.reads_try.specs.LaneTable.{table_of}
use Rattle.reads_try.specs.TableLanes.{SoundLanes}
use Rattle.reads_try.proofs.LaneTableLaws.{table_length}
use Rattle.rounds.specs.Rounds.{SetSearchable}
use Rattle.rounds.proofs.RoundsAnswerLaws.{win_of, searchable}
use Rattle.reads.proofs.PackingLaws.{lanes_packing}
use Rattle.reads.proofs.SetLaws.{pairs_small}
use Rattle.reads.proofs.RoundCountLaws.{rounds_range}
use Rattle.reads.proofs.LocalLaws.{OwnPositions, own_positions}
use Rattle.handed_lanes.specs.Handed.{lanes_in, words_of, fault, told_item, judged, handed_packed, handed_set}
use Rattle.handed_lanes.proofs.FaultLaws.{exactly_when, own_passes}
use Rattle.handed_lanes.proofs.LaneWordLaws.{words_back, in_numbered, sound_numbered, packing_sound}

-- ---- 27, or placed

pub faultless_judged : (n : ℕ) (ps : List Pair) (lanes : List Lane) → fault n ps lanes ≡ none → judged n ps lanes ≡ good (record { size = 0; lanes = lanes })
unfolding judged told_item
faultless_judged n ps lanes e = rw (e, judged)

pub judged_placed : (n : ℕ) (ps : List Pair) (lanes : List Lane) (x : Packed) → judged n ps lanes ≡ good x
    → (fault n ps lanes ≡ none) × (x ≡ record { size = 0; lanes = lanes })
unfolding judged told_item
judged_placed n ps lanes x e = go (fault n ps lanes) refl
  where
    go : (o : Option ℕ) → fault n ps lanes ≡ o → (fault n ps lanes ≡ none) × (x ≡ record { size = 0; lanes = lanes })
    go (some i) f = refused_good _ x (rw (f, judged) at e)
    go none f =
        let q : good (record { size = 0; lanes = lanes }) ≡ good x = rw (f, judged) at e in
        let s : record { size = 0; lanes = lanes } ≡ x = cc in
        (f, sym s)

-- ---- what the refusals leave

pub record HandedPassed (n : ℕ) (ps : List Pair) (ws : List ℕ) (x : Packed) : Type 0 where
  pub few : length ps ≤ 8192
  pub form : broken ps ≡ none
  pub nonempty : 0 < length ps
  pub faultless : fault n ps (lanes_in ps ws) ≡ none
  pub is : x ≡ record { size = 0; lanes = lanes_in ps ws }

pub handed_placed : (n : ℕ) (ps : List Pair) (ws : List ℕ) (x : Packed) → handed_packed n ps ws ≡ good x
    → (0 < length ps) × (fault n ps (lanes_in ps ws) ≡ none) × (x ≡ record { size = 0; lanes = lanes_in ps ws })
unfolding handed_packed
handed_placed n ps ws x e = go (ltb 0 (length ps)) refl
  where
    go : (t : Bool) → ltb 0 (length ps) ≡ t → (0 < length ps) × (fault n ps (lanes_in ps ws) ≡ none) × (x ≡ record { size = 0; lanes = lanes_in ps ws })
    go false t = refused_good _ x (rw (t, handed_packed) at e)
    go true t =
        let j = judged_placed n ps (lanes_in ps ws) x (rw (t, handed_packed) at e) in
        (ltb-true _ _ t, j.0, j.1)

pub handed_passed : (n : ℕ) (ps : List Pair) (ws : List ℕ) (x : Packed) → handed_set n ps ws ≡ good x → HandedPassed n ps ws x
unfolding handed_set
handed_passed n ps ws x e = go (leb (length ps) 8192) refl (broken ps) refl
  where
    go : (t : Bool) → leb (length ps) 8192 ≡ t → (o : Option ℕ) → broken ps ≡ o → HandedPassed n ps ws x
    go false t o f = refused_good _ x (rw (t, handed_set) at e)
    go true t (some i) f = refused_good _ x (rw (t, f, handed_set) at e)
    go true t none f =
        let p = handed_placed n ps ws x (rw (t, f, handed_set) at e) in
        record { few = leb-true _ _ t; form = f; nonempty = p.0; faultless = p.1; is = p.2 }

-- What lanes handed in and placed are is a packing of the set: `placed_packing` for this origin.
pub handed_placed_packing : (n : ℕ) (ps : List Pair) (ws : List ℕ) (x : Packed) → broken ps ≡ none → handed_packed n ps ws ≡ good x → Packing n ps x.lanes
handed_placed_packing n ps ws x form e =
    let p = handed_placed n ps ws x e in
    rw p.2 ((exactly_when n ps (lanes_in ps ws) form).0 p.1)

pub handed_packing : (n : ℕ) (ps : List Pair) (ws : List ℕ) (x : Packed) → handed_set n ps ws ≡ good x → Packing n ps x.lanes
handed_packing n ps ws x e =
    let p = handed_passed n ps ws x e in
    rw p.is ((exactly_when n ps (lanes_in ps ws) p.form).0 p.faultless)

-- "Its piece size reads 0."
pub handed_size : (n : ℕ) (ps : List Pair) (ws : List ℕ) (x : Packed) → handed_set n ps ws ≡ good x → x.size ≡ 0
handed_size n ps ws x e = rw (handed_passed n ps ws x e).is

-- ---- a lent set

-- what holds of lanes that are placed
pub record HandedSound (n : ℕ) (ps : List Pair) (ws : List ℕ) (x : Packed) : Type 0 where
  pub passed : HandedPassed n ps ws x
  pub packing : Packing n ps x.lanes
  pub rounds : (0 < longest x.lanes) × (longest x.lanes ≤ 32)
  pub positions : OwnPositions n ps x.lanes

module _ (set : List ℕ) (form : broken (pairs_of set) ≡ none) (small : (x : ℕ) → get_or set x 0 < 2 ^ 32) where
  -- accepted lanes are what a table of lanes asks
  pub faultless_sound : (n : ℕ) (ws : List ℕ) → fault n (pairs_of set) (lanes_in (pairs_of set) ws) ≡ none → SoundLanes set n (lanes_in (pairs_of set) ws)
  faultless_sound n ws e =
      let lanes = lanes_in (pairs_of set) ws in
      packing_sound set form small n lanes (in_numbered (pairs_of set) ws) ((exactly_when n (pairs_of set) lanes form).0 e)

  -- what is promised of lanes that are placed: as of our own search's
  pub handed_sound : (n : ℕ) (ws : List ℕ) (x : Packed) → handed_set n (pairs_of set) ws ≡ good x → HandedSound n (pairs_of set) ws x
  handed_sound n ws x e =
      let p = handed_passed n (pairs_of set) ws x e in
      let packs = handed_packing n (pairs_of set) ws x e in
      let masks : (w m : ℕ) → 0 < times w m (pairs_of set) → m < 2 ^ 32 = λ w m q. (pairs_small 0 set (2 ^ 32) small w m q).1 in
      record {
        passed = p;
        packing = packs;
        rounds = rounds_range n (pairs_of set) x.lanes packs form masks p.nonempty;
        positions = own_positions n (pairs_of set) x.lanes packs form masks;
      }

  module _ (n : ℕ) (few : length set ≤ 16384) (some_lanes : 0 < n) (few-lanes : n ≤ 256) (lanes : List Lane) (own : lanes_of n (pairs_of set) ≡ some lanes) where
    asks : SetSearchable set (32 * n) 8192 8192 n
    asks = searchable (record { room = refl; some_lanes = some_lanes; few-lanes = few-lanes; keys-room = omega arith; scratch-room = omega arith }) few form small

    own-sound : SoundLanes set n lanes
    own-sound =
        let long : length (table_of lanes) ≡ 32 * n = table_length lanes ∙ ap (λ (k : ℕ). 32 * k) (lanes_packing n (pairs_of set) lanes own some_lanes).wide in
        let w = win_of asks lanes (table_of lanes) own (rw own) long in
        let same : w.lanes ≡ lanes = cc (w.found, own) in
        rw (← same, ← w.same) w.readable.filled.kept

    -- our own lanes come back from their words
    pub own_words : lanes_in (pairs_of set) (words_of lanes) ≡ lanes
    own_words = words_back (pairs_of set) lanes (sound_numbered set form lanes own-sound.sound)

    -- "Our own search's result must always pass", also through the words.
    pub own_handed : 0 < length (pairs_of set) → handed_packed n (pairs_of set) (words_of lanes) ≡ good (record { size = 0; lanes = lanes })
    unfolding handed_packed
    own_handed h = rw (lt-ltb _ _ h, handed_packed, own_words) (faultless_judged n (pairs_of set) lanes (own_passes n (pairs_of set) lanes form some_lanes own))
