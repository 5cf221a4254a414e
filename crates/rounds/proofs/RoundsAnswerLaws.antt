-- Which outcome each way through the code has, and what the table holds when a size has won.
-- Assumes nothing.
use mathlib.Core.Path.{◌≡◌, refl, sym, ap, subst, ◌∙◌}
use mathlib.Core.Bool.{true, false}
use mathlib.Core.Option.{none, some}
use mathlib.Core.List.{List, [], ◌++◌, append-nil}
use Prim.Native.Nat.{ℕ, ◌*◌, ◌/◌, ◌^◌, ◌≤◌, ◌<◌}
use native.Mathlib.Nat.{le_trans, mul-le-mul_left, div-le_self}
use native.Mathlib.Omega.{arith}
use borrow.Author.Tests.{le-leb, lt-leb}
use lib.Dec.{leb}
use lib.ListN.{length, get_or, take, drop, replicate, length-append, length-drop}
use lib.Seq.{sets, length-take-le}
use Rattle.reads.specs.ReadSet.{pairs_of, broken}
use Rattle.reads.specs.Search.{Lane, Tried, all, lanes_of, size_of, longest}
use Rattle.reads.specs.ReadSection.{rounds_from}
use Rattle.words.specs.Answer.{Answer, good, refused, at_item, nowhere}
use Rattle.words.specs.Edition.{known}
use Rattle.words.specs.declared.refusals.Refusal.{Refusal}
use Rattle.reads.specs.SetAnswer.{Packed, packed, read_set, set_fitted, result_after, set_room_after}
use Rattle.reads.proofs.SearchLaws.{win_first, size_won}
use Rattle.reads.proofs.SetAnswerLaws.{packed_placed, placed_lanes, placed_sound}
use Rattle.reads_try.specs.LaneTable.{table_of}
use Rattle.reads_try.specs.Tries.{tried_lanes, tried_of}
use Rattle.reads_try.specs.TableLanes.{lanes_at, SoundLanes}
use Rattle.reads_try.proofs.SetPairLaws.{pairs_length}
use Rattle.reads_try.proofs.LaneTableLaws.{filled_of, filled_lanes}
use Rattle.reads_try.proofs.TryLaws.{tried_kept}
use Rattle.reads_pieces.specs.Keys.{keys_of}
use Rattle.reads_section.specs.Readout.{TableReadable}
use Rattle.reads_section.proofs.PairFormLaws.{form_whole, form_masks}
use Rattle.std.specs.Prelude.{Ok, Err}
use Rattle.std.specs.declared.result.Result.{Result}
use Rattle.rounds.specs.declared.Placed as code
use Rattle.rounds.specs.RoundsAnswer.{edition_answer, rounds_answer}
use Rattle.rounds.specs.Rounds.{rounds_of, searched_of, table_after, SetSearchable, Solvable, RoundsReady}
use Rattle.rounds.proofs.PieceSizeLaws.{tried_is}

-- ---- which outcome: 1, 2, those of the search, 14, each after those before it

module _ (n : ℕ) (ws : List ℕ) (o : ℕ) where
  abbrev pub end : Answer Packed
  end = set_fitted n o (read_set n (pairs_of ws))

  pub is_many : 16384 < length ws → end ≡ refused (nowhere 1)
  unfolding read_set set_fitted
  is_many h = rw (lt-leb (length (pairs_of ws)) 8192 (omega (arith, pairs_length 0 ws)), read_set)

  module _ (few : length ws ≤ 16384) where
    pairs-few : leb (length (pairs_of ws)) 8192 ≡ true
    pairs-few = le-leb (length (pairs_of ws)) 8192 (omega (arith, pairs_length 0 ws))

    pub is_bad : (i : ℕ) → broken (pairs_of ws) ≡ some i → end ≡ refused (at_item 2 i)
    unfolding read_set set_fitted
    is_bad i e = rw (pairs-few, e, read_set)

    module _ (form : broken (pairs_of ws) ≡ none) where
      pub is_read : read_set n (pairs_of ws) ≡ packed n (pairs_of ws)
      unfolding read_set
      is_read = rw (pairs-few, form, read_set)

      pub is_lost : (q : Refusal) → packed n (pairs_of ws) ≡ refused q → end ≡ refused q
      unfolding set_fitted
      is_lost q e = rw (is_read, e, set_fitted)

      module _ (x : Packed) (e : packed n (pairs_of ws) ≡ good x) where
        pub is_short : o < 2 * n * longest x.lanes → end ≡ refused (nowhere 14)
        unfolding set_fitted
        is_short l = rw (is_read, e, lt-leb (2 * n * longest x.lanes) o l, set_fitted)

        pub is_placed : 2 * n * longest x.lanes ≤ o → end ≡ good x
        unfolding set_fitted
        is_placed l = rw (is_read, e, le-leb (2 * n * longest x.lanes) o l, set_fitted)

-- ---- the answer and the result, by the outcome

module _ (D : Answer Packed) (out : List ℕ) where
  pub refused_post : (q q' : Refusal) → D ≡ refused q → q' ≡ q → (Err q' ≡ rounds_of D) × (out ≡ result_after D out)
  unfolding result_after
  refused_post q q' e eq = rw e (ap Err eq, refl)

pub placed_post : (D : Answer Packed) (x : Packed) (ls : List Lane) (n s : ℕ) (out out' : List ℕ) → D ≡ good x → ls ≡ x.lanes → n ≡ longest ls → x.size ≡ s
    → out' ≡ sets out 0 (rounds_from ls n 0) → (Ok (record { rounds = n; size = s }) ≡ rounds_of D) × (out' ≡ result_after D out)
unfolding result_after
placed_post D x ls n s out out' e el en es eo =
    let q : n ≡ longest x.lanes = en ∙ ap longest el in
    rw (e, ← es) (ap (λ (k : ℕ). Ok (record { rounds = k; size = x.size })) q, rw (← q) (rw el at eo))

-- ---- a set that has the form is searched

pub searchable : {ws : List ℕ} {t K S n : ℕ} → Solvable t K S n → length ws ≤ 16384 → broken (pairs_of ws) ≡ none → ((x : ℕ) → get_or ws x 0 < 2 ^ 32)
    → SetSearchable ws t K S n
searchable {ws} s few form small = record {
  whole = form_whole ws form;
  few = few;
  masks = form_masks ws form small;
  room = s.room;
  some_lanes = s.some_lanes;
  few-lanes = s.few-lanes;
  keys-room = omega (arith, s.keys-room);
  scratch-room = omega (arith, s.scratch-room);
}

pub searchable_set : {ws : List ℕ} {t K S n : ℕ} → RoundsReady (length ws) t K S n → length ws ≤ 16384 → broken (pairs_of ws) ≡ none
    → ((x : ℕ) → get_or ws x 0 < 2 ^ 32) → SetSearchable ws t K S n
searchable_set {ws} s few form small = record {
  whole = form_whole ws form;
  few = few;
  masks = form_masks ws form small;
  room = s.room;
  some_lanes = s.some_lanes;
  few-lanes = s.few-lanes;
  keys-room = s.keys-room few;
  scratch-room = s.scratch-room few;
}

-- ---- a size has won, or none

pub lost_is : (D : Answer Packed) (q : Refusal) → searched_of D ≡ Err q → D ≡ refused q
lost_is (good x) q e =
    let z : ◌≡◌ {A = ℕ} 0 1 = cc in
    absurd (omega arith)
lost_is (refused p) q e = let s : p ≡ q = cc in ap refused s

pub won_is : (D : Answer Packed) (k : ℕ) → searched_of D ≡ Ok k → (x : Packed) × (D ≡ good x) × (x.size ≡ k)
won_is (good x) k e = (x, refl, cc)
won_is (refused q) k e =
    let z : ◌≡◌ {A = ℕ} 0 1 = cc in
    absurd (omega arith)

-- the lanes that won, as the table says them
pub record Win (ws table : List ℕ) (n : ℕ) : Type 0 where
  pub lanes : List Lane
  pub found : lanes_of n (pairs_of ws) ≡ some lanes
  pub readable : TableReadable ws table n
  pub same : lanes_at ws table n ≡ lanes

module _ {ws : List ℕ} {t K S n : ℕ} (s : SetSearchable ws t K S n) where
  won-kept : (lanes : List Lane) → lanes_of n (pairs_of ws) ≡ some lanes → SoundLanes ws n lanes
  won-kept lanes e =
      let w = size_won n (pairs_of ws) lanes e in
      let k = size_of n (pairs_of ws) in
      let tried : tried_of n k ws (keys_of k (pairs_of ws)) ≡ all lanes = tried_is ws n k s.few w.size (keys_of k (pairs_of ws)) refl ∙ w.wins in
      subst (λ (T : Tried). SoundLanes ws n (tried_lanes T)) tried (tried_kept ws s.whole s.masks n k (keys_of k (pairs_of ws)) s.some_lanes)

  pub won_table : (lanes : List Lane) (table : List ℕ) → lanes_of n (pairs_of ws) ≡ some lanes → table ≡ table_after n (lanes_of n (pairs_of ws)) → length table ≡ 32 * n
      → TableReadable ws table n × (lanes_at ws table n ≡ lanes)
  won_table lanes table e et long =
      let kept = won-kept lanes e in
      let filled : table ≡ table_of lanes ++ [] = (rw e at et) ∙ sym (append-nil (table_of lanes)) in
      (record { few = s.few-lanes; in-room = omega arith; filled = filled_of kept [] filled }, filled_lanes kept [] filled)

  pub win_of : (lanes : List Lane) (table : List ℕ) → lanes_of n (pairs_of ws) ≡ some lanes → table ≡ table_after n (lanes_of n (pairs_of ws)) → length table ≡ 32 * n
      → Win ws table n
  win_of lanes table e et long =
      let there = won_table lanes table e et long in
      record { lanes = lanes; found = e; readable = there.0; same = there.1 }

  -- a size is at most the number of pairs
  pub won_small : (x : Packed) → packed n (pairs_of ws) ≡ good x → x.size ≤ 8192
  won_small x e =
      let w = win_first n (pairs_of ws) 14 (length (pairs_of ws)) x.size x.lanes (packed_placed n (pairs_of ws) x e).1 in
      let few : length (pairs_of ws) / 2 ^ w.i ≤ length (pairs_of ws) = div-le_self (length (pairs_of ws)) (2 ^ w.i) in
      omega (arith, few, w.is, pairs_length 0 ws, s.few)

-- what a search that has won leaves for the rounds
pub record SearchWon (ws table : List ℕ) (n k : ℕ) : Type 0 where
  pub packing : Packed
  pub packed_is : packed n (pairs_of ws) ≡ good packing
  pub size : packing.size ≡ k
  pub size_few : k ≤ 8192
  pub readable : TableReadable ws table n
  pub same : lanes_at ws table n ≡ packing.lanes
  pub few_rounds : longest packing.lanes ≤ 32

module _ {ws : List ℕ} {t K S n : ℕ} (ready : RoundsReady (length ws) t K S n) (few : length ws ≤ 16384) (form : broken (pairs_of ws) ≡ none)
    (small : (x : ℕ) → get_or ws x 0 < 2 ^ 32) where
  pub found : (r : Result ℕ Refusal) → r ≡ searched_of (packed n (pairs_of ws)) → (k : ℕ) → r ≡ Ok k → (table : List ℕ) → table ≡ table_after n (lanes_of n (pairs_of ws))
      → length table ≡ t → SearchWon ws table n k
  found r er k f table et long =
      let s = searchable_set ready few form small in
      let won = won_is (packed n (pairs_of ws)) k (sym er ∙ f) in
      let x = won.0 in
      let there = won_table s x.lanes table (placed_lanes n (pairs_of ws) x won.1) et (long ∙ ready.room) in
      let sound = placed_sound n ws x ready.some_lanes small (is_read n ws 0 few form ∙ won.1) in
      record {
        packing = x;
        packed_is = won.1;
        size = won.2;
        size_few = omega (arith, won_small s x won.1, won.2);
        readable = there.0;
        same = there.1;
        few_rounds = sound.rounds.1;
      }

-- the words of 32 rounds of 256 lanes
pub size_fits : (n r : ℕ) → n ≤ 256 → r ≤ 32 → 2 * n * r ≤ 16384
size_fits n r h l = le_trans (mul-le-mul_left (2 * n) l) (omega arith)

-- ---- 32 before all others, then 29

module _ (n : ℕ) (ws : List ℕ) (o : ℕ) where
  pub is_unknown : known n ≡ false → edition_answer n ws o ≡ refused (nowhere 29)
  unfolding edition_answer
  is_unknown h = rw (h, edition_answer)

  pub is_known : known n ≡ true → edition_answer n ws o ≡ end n ws o
  unfolding edition_answer
  is_known h = rw (h, edition_answer)

-- what is promised of an answer, a result and a room
abbrev pub Promised : (n : ℕ) (ws out room : List ℕ) → Result code.Placed Refusal → (out' room' : List ℕ) → Type 0
Promised n ws out room r out' room' =
    (r ≡ rounds_of (rounds_answer n ws (length out) (length room))) × ((out' ≡ result_after (rounds_answer n ws (length out) (length room)) out) × (room' ≡ set_room_after room))

pub short_post : (n : ℕ) (ws out room : List ℕ) (q : Refusal) → length room < 16384 → q ≡ nowhere 32 → Promised n ws out room (Err q) out room
unfolding rounds_answer result_after set_room_after
short_post n ws out room q h e =
    let t : leb 16384 (length room) ≡ false = lt-leb 16384 (length room) h in
    (rw (t, rounds_answer) (ap Err e), (rw (t, rounds_answer, result_after), rw (t, set_room_after)))

pub long_post : (n : ℕ) (ws out room : List ℕ) (r : Result code.Placed Refusal) (out' room' used : List ℕ) → 16384 ≤ length room → r ≡ rounds_of (edition_answer n ws (length out))
    → out' ≡ result_after (edition_answer n ws (length out)) out → room' ≡ replicate (length used) 0 → length used ≡ length room → Promised n ws out room r out' room'
unfolding rounds_answer set_room_after
long_post n ws out room r out' room' used h er eo em long =
    let t : leb 16384 (length room) ≡ true = le-leb 16384 (length room) h in
    let o : rounds_answer n ws (length out) (length room) ≡ edition_answer n ws (length out) = rw (t, rounds_answer) in
    (rw o er, (rw o eo, em ∙ rw (t, set_room_after, long)))

-- a part comes back as long as it was lent
pub part_length : (n : ℕ) (l part : List ℕ) → n ≤ length l → length part ≡ length (take n l) → length (part ++ drop n l) ≡ length l
part_length n l part h e = omega (arith, length-append part (drop n l), length-take-le n l h, length-drop n l)
