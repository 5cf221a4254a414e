-- A try at a piece size in the code's terms, and one size more of the search.
-- Assumes nothing.
use mathlib.Core.Path.{◌≡◌, refl, sym, ap, ◌∙◌}
use mathlib.Core.Bool.{Bool, true, false, ◌&&◌}
use mathlib.Core.List.{List, [], ◌++◌, append-nil}
use Prim.Native.Nat.{ℕ, ◌*◌, ◌/◌, ◌%◌, ◌≤◌, ◌<◌}
use native.Mathlib.Nat.{lt_of_le_of_lt}
use native.Mathlib.Omega.{arith}
use borrow.Author.Tests.{ltb-true, lt-ltb, le-ltb}
use lib.Dec.{lit<, ltb}
use lib.ListN.{length, drop, replicate, length-append, length-replicate, drop_of_length-le}
use lib.Seq.{take_all}
use Rattle.reads.specs.ReadSet.{Pair, pairs_of}
use Rattle.reads.specs.Search.{Tried, all, stuck, try_from, try, won, ended, first_win, found_of, stop_word, last_word, lanes_found, lanes_of}
use Rattle.reads.specs.SetAnswer.{searched}
use Rattle.reads.proofs.SearchLaws.{win_none, win_all, win_stuck, win_fuel}
use Rattle.reads_try.specs.LaneTable.{table_of}
use Rattle.reads_try.specs.Tries.{ending_of, tried_lanes, tried_of, TryReady}
use Rattle.std.specs.Prelude.{⊤, Ok, Err}
use Rattle.std.specs.declared.result.Result.{Result}
use Rattle.reads_try.specs.declared.Stuck.{Stuck}
use Rattle.words.specs.declared.refusals.Refusal.{Refusal}
use Rattle.words.specs.Answer.{good, refused, at_item}
use Rattle.words.proofs.TestLaws.{and_true}
use Rattle.reads_try.specs.Late.{late_full}
use Rattle.reads_try.proofs.SetPairLaws.{pairs_length}
use Rattle.reads_try.proofs.LateLaws.{late_tried}
use Rattle.reads_pieces.specs.Keys.{keys_of, piece_count, Orderable}
use Rattle.reads_pieces.proofs.PieceKeyLaws.{piece_count_le}
use Rattle.reads_pieces.proofs.PieceOrderLaws.{run_is}
use Rattle.rounds.specs.Rounds.{searched_of, word_told, told_of, won_lanes, table_after, TrySet, SetSearchable}

pub zeros_length : {t : List ℕ} {n : ℕ} → t ≡ replicate n 0 → length t ≡ n
zeros_length {t} {n} e = ap length e ∙ length-replicate n 0

pub table_cleared : (t : List ℕ) (n : ℕ) {s : List ℕ} → s ≡ replicate (length t) 0 → length t ≡ n → s ≡ replicate n 0
table_cleared t n e l = e ∙ ap (λ (m : ℕ). replicate m 0) l

-- ---- a try at size k

module _ {ws : List ℕ} {t K S n k : ℕ} (s : SetSearchable ws t K S n) (h : 0 < k) where
  pub count_few : piece_count (length ws / 2) k ≤ K
  count_few = omega (arith, piece_count_le (length ws / 2) k h, s.keys-room)

  pub orderable : (keys scratch : List ℕ) → length keys ≡ piece_count (length ws / 2) k → length scratch ≡ S → Orderable ws keys scratch k
  orderable keys scratch e f = record {
    fillable = record { even = s.whole; few = omega (arith, s.few); size = h; full = e };
    room = omega (arith, piece_count_le (length ws / 2) k h, s.scratch-room);
  }

  pub try_set : k ≤ length ws / 2 → TrySet ws n k
  try_set l = record {
    whole = s.whole;
    few = s.few;
    masks = s.masks;
    some_lanes = s.some_lanes;
    few-lanes = s.few-lanes;
    some_pairs = h;
    size = l;
  }

-- the word is told of the last size
pub told_last : (k w : ℕ) → k ≤ 1 → w ≡ word_told k w
told_last k w h = rw (le-ltb 1 k h, word_told)

pub told_before : (k w : ℕ) → 1 < k → 0 ≡ word_told k w
told_before k w h = rw (lt-ltb 1 k h, word_told)

-- the keys in order name the pairs that the definition's try places
pub tried_is : (ws : List ℕ) (n k : ℕ) → length ws ≤ 16384 → 0 < k → (keys : List ℕ) → keys ≡ keys_of k (pairs_of ws) → tried_of n k ws keys ≡ try n (pairs_of ws) k
tried_is ws n k few h keys e =
    ap (λ (run : List Pair). try_from n run (replicate n []) 0) (rw e (run_is k (pairs_of ws) (omega (arith, pairs_length 0 ws)) h))

module _ {ws : List ℕ} {n k : ℕ} (s : TrySet ws n k) where
  pub ready : (table used held : List ℕ) → table ≡ replicate (32 * n) 0 → used ≡ replicate n 0 → held ≡ replicate n 0 → TryReady ws table used held n k
  ready table used held e eu eh =
      let long : length table ≡ 32 * n = zeros_length e in
      record {
        whole = s.whole;
        pairs = s.few;
        masks = s.masks;
        in-room = omega arith;
        empty = take_all (32 * n) table (omega arith) ∙ e;
        no_bits = eu;
        no_pairs = eh;
        some_lanes = s.some_lanes;
        size = omega (arith, s.few, s.size);
      }

  abbrev T : Tried
  T = try n (pairs_of ws) k

  module _ (keys : List ℕ) (e : keys ≡ keys_of k (pairs_of ws)) where
    named : tried_of n k ws keys ≡ T
    named = tried_is ws n k s.few s.some_pairs keys e

    -- all is placed: the table is that of the lanes
    pub ordered_won : (r : Result ⊤ Stuck) → r ≡ ending_of (tried_of n k ws keys) → r ≡ Ok tt → (table table' : List ℕ) → table ≡ replicate (32 * n) 0
        → table' ≡ table_of (tried_lanes (tried_of n k ws keys)) ++ drop (32 * n) table → (Ok tt ≡ told_of k T) × (table' ≡ table_after n (won_lanes T))
    ordered_won r er f table table' et et' = go T refl
      where
        go : (U : Tried) → T ≡ U → (Ok tt ≡ told_of k T) × (table' ≡ table_after n (won_lanes T))
        go (stuck p lanes) u =
            let q : ◌≡◌ {A = Result ⊤ Stuck} (Err (record { word = p.word })) (Ok tt) = sym (rw (named, u) at er) ∙ f in
            let z : ◌≡◌ {A = ℕ} 0 1 = cc in
            absurd (omega arith)
        go (all lanes) u =
            let short : length table ≤ 32 * n = omega (arith, zeros_length {n = 32 * n} et) in
            rw u (refl, (rw (named, u) at et') ∙ rw (drop_of_length-le table short, append-nil))

    -- a pair found no room: the table is cleared
    pub ordered_lost : (r : Result ⊤ Stuck) → r ≡ ending_of (tried_of n k ws keys) → (w : Stuck) → r ≡ Err w → (w' : Stuck) → w'.word ≡ word_told k w.word → (table : List ℕ)
        → table ≡ replicate (32 * n) 0 → (Err w' ≡ told_of k T) × (table ≡ table_after n (won_lanes T))
    ordered_lost r er w f w' ew table et = go T refl
      where
        go : (U : Tried) → T ≡ U → (Err w' ≡ told_of k T) × (table ≡ table_after n (won_lanes T))
        go (all lanes) u =
            let q : ◌≡◌ {A = Result ⊤ Stuck} (Ok tt) (Err w) = sym (rw (named, u) at er) ∙ f in
            let z : ◌≡◌ {A = ℕ} 0 1 = cc in
            absurd (omega arith)
        go (stuck p lanes) u =
            let q : ◌≡◌ {A = Result ⊤ Stuck} (Err (record { word = p.word })) (Err w) = sym (rw (named, u) at er) ∙ f in
            let is : p.word ≡ w.word = cc in
            rw u (ap (λ (x : ℕ). Err (record { word = x })) (ew ∙ ap (λ (x : ℕ). word_told k x) (sym is)), et)

    -- a pair of 32 bits would find none, at another size than the last: nothing is placed
    pub passed_lost : (look : Bool) (r : Bool) → r ≡ (look && (ltb 1 k && late_full n k ws keys)) → r ≡ true → (table : List ℕ) → table ≡ replicate (32 * n) 0
        → (Err (record { word = 0 }) ≡ told_of k T) × (table ≡ table_after n (won_lanes T))
    passed_lost look r er f table et =
        let both = (and_true look (ltb 1 k && late_full n k ws keys) (sym er ∙ f)).1 in
        let late = and_true (ltb 1 k) (late_full n k ws keys) both in
        let end = late_tried ws s.whole s.masks n k keys s.some_lanes late.1 in
        let is : T ≡ stuck end.0 end.1 = sym named ∙ end.2 in
        let none_told : ◌≡◌ {A = Result ⊤ Stuck} (Err (record { word = 0 })) (Err (record { word = word_told k end.0.word })) = ap (λ (w : ℕ). Err (record { word = w })) (told_before k end.0.word (ltb-true 1 k late.0)) in
        (none_told ∙ ap (λ (U : Tried). told_of k U) (sym is), et ∙ ap (λ (U : Tried). table_after n (won_lanes U)) (sym is))

-- the look at the keys, test by test

pub not_looked : (look late : Bool) → look ≡ false → false ≡ (look && late)
not_looked look late e = rw e

pub look_last : (look : Bool) (k : ℕ) (late : Bool) → look ≡ true → k ≤ 1 → false ≡ (look && (ltb 1 k && late))
look_last look k late e h = rw (e, le-ltb 1 k h)

pub look_late : (look : Bool) (k : ℕ) (late r : Bool) → look ≡ true → 1 < k → r ≡ late → r ≡ (look && (ltb 1 k && late))
look_late look k late r e h f = rw (e, lt-ltb 1 k h) f

-- the keys in front of others
pub front_room : (keys rest : List ℕ) (m : ℕ) → length keys ≡ m → m ≤ length (keys ++ rest)
front_room keys rest m e = omega (arith, length-append keys rest)

-- ---- one size more

-- from size k on the search ends as it does from the first; w is the word of the try before, the last one where no size is left
abbrev pub Left : ℕ → List Pair → (k w : ℕ) → Type 0
Left n ps k w = (k ≤ length ps) × (first_win n ps 14 k ≡ found_of n ps) × (k ≡ 0 → w ≡ last_word n ps)

pub pairs_whole : (ws : List ℕ) → length ws % 2 ≡ 0 → length (pairs_of ws) ≡ length ws / 2
pairs_whole ws h = omega (arith, pairs_length 0 ws)

module _ {ws : List ℕ} {t K S n : ℕ} (s : SetSearchable ws t K S n) where
  pub search_few : length (pairs_of ws) ≤ 8192
  search_few = omega (arith, pairs_length 0 ws, s.few)

  pub search_still : (t' K' S' : ℕ) → t' ≡ 32 * n → K' ≡ K → S' ≡ S → SetSearchable ws t' K' S' n
  search_still t' K' S' et eK eS = record {
    whole = s.whole;
    few = s.few;
    masks = s.masks;
    room = et;
    some_lanes = s.some_lanes;
    few-lanes = s.few-lanes;
    keys-room = rw eK s.keys-room;
    scratch-room = rw eS s.scratch-room;
  }

  pub search_start : 0 < length ws / 2 → Left n (pairs_of ws) (length ws / 2) 0
  search_start h =
      let same = pairs_whole ws s.whole in
      (omega (arith, same), ap (λ (k : ℕ). first_win n (pairs_of ws) 14 k) (sym same), λ z. absurd (omega arith))

module _ (n : ℕ) (ps : List Pair) (few : length ps ≤ 8192) where
  pub left_end : (k w : ℕ) → k ≤ 0 → Left n ps k w → (q : Refusal) → q ≡ at_item 4 w → (table : List ℕ) → table ≡ replicate (32 * n) 0
      → (Err q ≡ searched_of (searched n ps)) × (table ≡ table_after n (lanes_of n ps))
  unfolding lanes_found searched
  left_end k w h l q eq table et =
      let z : k ≡ 0 = omega arith in
      let none-won : found_of n ps ≡ ended = sym l.1 ∙ rw z (win_none n ps 14) in
      let answer : searched n ps ≡ refused (at_item 4 w) = rw (none-won, l.2 z, searched) in
      (ap Err eq ∙ ap searched_of (sym answer), rw none-won et)

  -- the table is empty again
  pub left_empty : (k : ℕ) (r : Result ⊤ Stuck) → r ≡ told_of k (try n ps k) → (w : Stuck) → r ≡ Err w → (table : List ℕ) → table ≡ table_after n (won_lanes (try n ps k))
      → table ≡ replicate (32 * n) 0
  left_empty k r e w f table et = go (try n ps k) refl
    where
      go : (T : Tried) → try n ps k ≡ T → table ≡ replicate (32 * n) 0
      go (all lanes) t =
          let q : ◌≡◌ {A = Result ⊤ Stuck} (Ok tt) (Err w) = sym (rw t at e) ∙ f in
          let z : ◌≡◌ {A = ℕ} 0 1 = cc in
          absurd (omega arith)
      go (stuck p lanes) t = rw t at et

  pub left_on : (k v : ℕ) → 0 < k → Left n ps k v → (r : Result ⊤ Stuck) → r ≡ told_of k (try n ps k) → (w : Stuck) → r ≡ Err w → Left n ps (k / 2) w.word
  unfolding stop_word
  left_on k v h l r e w f = go (try n ps k) refl
    where
      go : (T : Tried) → try n ps k ≡ T → Left n ps (k / 2) w.word
      go (all lanes) t =
          let q : ◌≡◌ {A = Result ⊤ Stuck} (Ok tt) (Err w) = sym (rw t at e) ∙ f in
          let z : ◌≡◌ {A = ℕ} 0 1 = cc in
          absurd (omega arith)
      go (stuck p lanes) t =
          let q : ◌≡◌ {A = Result ⊤ Stuck} (Err (record { word = word_told k p.word })) (Err w) = sym (rw t at e) ∙ f in
          let is : word_told k p.word ≡ w.word = cc in
          let few-left : k / 2 ≤ 4096 = omega arith in
          let same = win_fuel n ps 13 14 (k / 2) (lt_of_le_of_lt few-left (lit< tt)) (lt_of_le_of_lt few-left (lit< tt)) in
          (omega arith, sym (win_stuck n ps 13 k p lanes h t ∙ same) ∙ l.1, λ z. sym is ∙ sym (told_last k p.word (omega (arith, one z))) ∙ ap stop_word (sym t ∙ ap (λ (x : ℕ). try n ps x) (one z)))
        where
          one : k / 2 ≡ 0 → k ≡ 1
          one z = omega arith

  pub left_won : (k v : ℕ) → 0 < k → Left n ps k v → (r : Result ⊤ Stuck) → r ≡ told_of k (try n ps k) → r ≡ Ok tt → (table : List ℕ) → table ≡ table_after n (won_lanes (try n ps k))
      → (Ok k ≡ searched_of (searched n ps)) × (table ≡ table_after n (lanes_of n ps))
  unfolding lanes_found searched
  left_won k v h l r e f table et = go (try n ps k) refl
    where
      go : (T : Tried) → try n ps k ≡ T → (Ok k ≡ searched_of (searched n ps)) × (table ≡ table_after n (lanes_of n ps))
      go (stuck p lanes) t =
          let q : ◌≡◌ {A = Result ⊤ Stuck} (Err (record { word = word_told k p.word })) (Ok tt) = sym (rw t at e) ∙ f in
          let z : ◌≡◌ {A = ℕ} 0 1 = cc in
          absurd (omega arith)
      go (all lanes) t =
          let wins : found_of n ps ≡ won k lanes = sym l.1 ∙ win_all n ps 13 k lanes h t in
          let answer : searched n ps ≡ good (record { size = k; lanes = lanes }) = rw (wins, searched) in
          (ap searched_of (sym answer), rw wins (rw t at et))
