-- The lanes that words say: a pair's number is where it stands in the set, lanes of numbered pairs come back from their words, and accepted lanes
-- are what a table of lanes asks.
-- Assumes nothing.
use mathlib.Core.Path.{◌≡◌, refl, sym, ap, ◌∙◌}
use mathlib.Core.Bool.{Bool, true, false, ◌&&◌}
use mathlib.Core.Option.{none}
use mathlib.Core.List.{List, [], ◌∷◌, ◌++◌}
use Prim.Native.Nat.{ℕ, zero, suc, ◌+◌, ◌*◌, ◌/◌, ◌^◌, ◌≤◌, ◌<◌}
use native.Mathlib.Nat.{not-suc-le-zero, le_of_suc-le-suc}
use native.Mathlib.Omega.{arith}
use borrow.Author.Tests.{eqb-true, eqb-false, eq-eqb, ne_eqb}
use lib.Dec.{eqb}
use lib.ListN.{length, get_or}
use Rattle.words.proofs.TestLaws.{and_true}
use Rattle.words.proofs.PopLaws.{pop_some}
use Rattle.reads.specs.ReadSet.{Pair, pairs_of, broken}
use Rattle.reads.specs.Search.{Lane}
use Rattle.reads.specs.Packing.{times, Packing}
use Rattle.reads.proofs.PackingLaws.{times_nil, times_cons}
use Rattle.reads.proofs.SetLaws.{times_here, times_at, mask_some, pair_once, pairs_small}
use Rattle.reads.proofs.RoundCountLaws.{in_lanes}
use Rattle.reads_try.specs.TableLanes.{pair_at, Each, Drawn, SoundLane, SoundLanes}
use Rattle.reads_try.proofs.SetPairLaws.{pairs_length, pairs_at}
use Rattle.reads_try.proofs.LaneTableLaws.{each_of}
use Rattle.reads_section.proofs.PairFormLaws.{form_whole}
use Rattle.handed_lanes.specs.Handed.{pair_index, pair_for, in_front, pair_more, lanes_in, lane_words, words_of}

-- ---- the number of a pair

-- a pair of this word and mask stands there
pub record Found (ps : List Pair) (w m : ℕ) (d : Pair) : Type 0 where
  pub in_set : pair_index ps w m < length ps
  pub word_is : (get_or ps (pair_index ps w m) d).word ≡ w
  pub mask_is : (get_or ps (pair_index ps w m) d).mask ≡ m

pub number_found : (ps : List Pair) (w m : ℕ) (d : Pair) → 0 < times w m ps → Found ps w m d
unfolding pair_index times
number_found [] w m d h = absurd (omega (arith, times_nil w m))
number_found (p ∷ ps) w m d h = go (eqb p.word w && eqb p.mask m) refl (number_found ps w m d)
  where
    go : (t : Bool) → eqb p.word w && eqb p.mask m ≡ t → (0 < times w m ps → Found ps w m d) → Found (p ∷ ps) w m d
    go true t r =
        let s = and_true (eqb p.word w) _ t in
        record { in_set = rw (t, pair_index) (omega arith); word_is = rw (t, pair_index) (eqb-true _ _ s.0); mask_is = rw (t, pair_index) (eqb-true _ _ s.1) }
    go false t r =
        let f = r (rw (t, times) at h) in
        record { in_set = rw (t, pair_index) (omega (arith, f.in_set)); word_is = rw (t, pair_index) f.word_is; mask_is = rw (t, pair_index) f.mask_is }

-- none stands there
pub number_nowhere : (ps : List Pair) (w m : ℕ) → times w m ps ≡ 0 → pair_index ps w m ≡ length ps
unfolding pair_index times
number_nowhere [] w m h = refl
number_nowhere (p ∷ ps) w m h = go (eqb p.word w && eqb p.mask m) refl (number_nowhere ps w m)
  where
    go : (t : Bool) → eqb p.word w && eqb p.mask m ≡ t → (times w m ps ≡ 0 → pair_index ps w m ≡ length ps) → pair_index (p ∷ ps) w m ≡ suc (length ps)
    go true t r = let z : suc (times w m ps) ≡ 0 = rw (t, times) at h in absurd (omega arith)
    go false t r = rw (t, pair_index) (ap suc (r (rw (t, times) at h)))

-- it stands at one place alone
pub number_one : (ps : List Pair) (k : ℕ) (d : Pair) → k < length ps → times (get_or ps k d).word (get_or ps k d).mask ps ≤ 1
    → pair_index ps (get_or ps k d).word (get_or ps k d).mask ≡ k
unfolding pair_index
number_one [] k d h o = absurd (not-suc-le-zero h)
number_one (p ∷ ps) zero d h o = rw (eq-eqb p.word p.word refl, eq-eqb p.mask p.mask refl, pair_index)
number_one (p ∷ ps) (suc k) d h o = go (eqb p.word w && eqb p.mask m) refl (number_one ps k d (le_of_suc-le-suc h) (omega (arith, times_cons w m p ps)))
  where
    w : ℕ
    w = (get_or ps k d).word

    m : ℕ
    m = (get_or ps k d).mask

    go : (t : Bool) → eqb p.word w && eqb p.mask m ≡ t → pair_index ps w m ≡ k → pair_index (p ∷ ps) w m ≡ suc k
    go false t r = rw (t, pair_index) (ap suc r)
    go true t r =
        let s = and_true (eqb p.word w) _ t in
        let same_word : p.word ≡ w = eqb-true _ _ s.0 in
        let same_mask : p.mask ≡ m = eqb-true _ _ s.1 in
        let here : 0 < times w m (p ∷ []) = rw (← same_word, ← same_mask) (times_here p []) in
        absurd (omega (arith, times_cons w m p ps, times_at ps k d (le_of_suc-le-suc h)))

-- ---- words and lanes

-- a pair with a mask, and its number in the set
pub record Numbered (ps : List Pair) (p : Pair) : Type 0 where
  pub same : p ≡ pair_for ps p.word p.mask
  pub some-mask : 0 < p.mask

pub more_end : (ps : List Pair) (w m : ℕ) (ls : List Lane) → m ≡ 0 → pair_more ps w m ls ≡ [] ∷ ls
unfolding pair_more
more_end ps w m ls e = rw (eq-eqb m 0 e, pair_more)

pub more_pair : (ps : List Pair) (w m : ℕ) (ls : List Lane) → 0 < m → pair_more ps w m ls ≡ in_front (pair_for ps w m) ls
unfolding pair_more
more_pair ps w m ls h = rw (ne_eqb m 0 (λ (e : m ≡ 0). omega arith), pair_more)

lane_back : (ps : List Pair) (l : Lane) (ws : List ℕ) → Each (Numbered ps) l → lanes_in ps (lane_words l ++ ws) ≡ l ∷ lanes_in ps ws
unfolding lanes_in lane_words in_front
lane_back ps [] ws h = more_end ps 0 0 (lanes_in ps ws) refl
lane_back ps (p ∷ l) ws h =
    more_pair ps p.word p.mask (lanes_in ps (lane_words l ++ ws)) h.0.some-mask
    ∙ ap (in_front (pair_for ps p.word p.mask)) (lane_back ps l ws h.1)
    ∙ ap (λ (q : Pair). (q ∷ l) ∷ lanes_in ps ws) (sym h.0.same)

-- Lanes of numbered pairs are what their words say.
pub words_back : (ps : List Pair) (ls : List Lane) → Each (Each (Numbered ps)) ls → lanes_in ps (words_of ls) ≡ ls
unfolding lanes_in words_of
words_back ps [] h = refl
words_back ps (l ∷ ls) h = lane_back ps l (words_of ls) h.0 ∙ ap (λ (r : List Lane). l ∷ r) (words_back ps ls h.1)

-- Lanes that words say have numbered pairs.
front_numbered : (ps : List Pair) (p : Pair) (ls : List Lane) → Numbered ps p → Each (Each (Numbered ps)) ls → Each (Each (Numbered ps)) (in_front p ls)
unfolding in_front
front_numbered ps p [] h k = ((h, tt), tt)
front_numbered ps p (l ∷ ls) h k = ((h, k.0), k.1)

more_numbered : (ps : List Pair) (w m : ℕ) (ls : List Lane) → Each (Each (Numbered ps)) ls → Each (Each (Numbered ps)) (pair_more ps w m ls)
unfolding pair_more
more_numbered ps w m ls h = go (eqb m 0) refl
  where
    ne-pos : (x : ℕ) → (x ≡ 0 → ⊥) → 0 < x
    ne-pos zero k = absurd (k refl)
    ne-pos (suc x) k = omega arith

    go : (t : Bool) → eqb m 0 ≡ t → Each (Each (Numbered ps)) (elim t [ true ↦ [] ∷ ls | false ↦ in_front (pair_for ps w m) ls ])
    go true t = (tt, h)
    go false t = front_numbered ps (pair_for ps w m) ls (record { same = refl; some-mask = ne-pos m (eqb-false m 0 t) }) h

pub in_numbered : (ps : List Pair) (ws : List ℕ) → Each (Each (Numbered ps)) (lanes_in ps ws)
unfolding lanes_in
in_numbered ps [] = tt
in_numbered ps (w ∷ []) = (tt, tt)
in_numbered ps (w ∷ m ∷ ws) = more_numbered ps w m (lanes_in ps ws) (in_numbered ps ws)

-- ---- pairs of a lent set

module _ (set : List ℕ) (form : broken (pairs_of set) ≡ none) where
  pub pairs_count : length (pairs_of set) ≡ length set / 2
  pairs_count = omega (arith, pairs_length 0 set, form_whole set form)

  -- pair p, by its words
  pub pair_times : (p : ℕ) → p < length set / 2 → 0 < times (get_or set (2 * p) 0) (get_or set (2 * p + 1) 0) (pairs_of set)
  pair_times p h =
      let at : get_or (pairs_of set) p (pair_at set 0) ≡ pair_at set p = pairs_at set p (pair_at set 0) h in
      rw at at (times_at (pairs_of set) p (pair_at set 0) (omega (arith, pairs_count)))

  pub pair_number : (p : ℕ) → p < length set / 2 → pair_index (pairs_of set) (get_or set (2 * p) 0) (get_or set (2 * p + 1) 0) ≡ p
  pair_number p h =
      let at : get_or (pairs_of set) p (pair_at set 0) ≡ pair_at set p = pairs_at set p (pair_at set 0) h in
      rw at at (number_one (pairs_of set) p (pair_at set 0) (omega (arith, pairs_count)) (pair_once (pairs_of set) form _ _))

  -- a pair of the set, as it is handed in
  pub found_pair : (w m : ℕ) → 0 < times w m (pairs_of set) → (pair_index (pairs_of set) w m < length set / 2) × (pair_for (pairs_of set) w m ≡ pair_at set (pair_index (pairs_of set) w m))
  found_pair w m h =
      let k = pair_index (pairs_of set) w m in
      let f = number_found (pairs_of set) w m (pair_at set 0) h in
      let l : k < length set / 2 = omega (arith, f.in_set, pairs_count) in
      let at : get_or (pairs_of set) k (pair_at set 0) ≡ pair_at set k = pairs_at set k (pair_at set 0) l in
      let w-is : get_or set (2 * k) 0 ≡ w = sym (ap (λ (p : Pair). p.word) at) ∙ f.word_is in
      let m-is : get_or set (2 * k + 1) 0 ≡ m = sym (ap (λ (p : Pair). p.mask) at) ∙ f.mask_is in
      (l, rw (w-is, m-is))

  module _ (small : (x : ℕ) → get_or set x 0 < 2 ^ 32) where
    found-drawn : (p : Pair) → Numbered (pairs_of set) p → 0 < times p.word p.mask (pairs_of set) → Drawn set p
    found-drawn p n h =
        let f = found_pair p.word p.mask h in
        let is_at : p.at ≡ pair_index (pairs_of set) p.word p.mask = ap (λ (q : Pair). q.at) n.same in
        record {
          in_set = omega (arith, is_at, f.0);
          same = n.same ∙ f.1 ∙ ap (pair_at set) (sym is_at);
          some_bits = pop_some p.mask (pairs_small 0 set (2 ^ 32) small p.word p.mask h).1 (mask_some (pairs_of set) form _ _ h);
        }

    lane-drawn : (l : Lane) → Each (Numbered (pairs_of set)) l → ((w m : ℕ) → 0 < times w m l → 0 < times w m (pairs_of set)) → Each (Drawn set) l
    lane-drawn [] n h = tt
    lane-drawn (p ∷ l) n h =
        (found-drawn p n.0 (h _ _ (times_here p l)), lane-drawn l n.1 (λ w m k. h w m (omega (arith, times_cons w m p l))))

    -- A packing of numbered pairs is what a table of lanes asks.
    pub packing_sound : (n : ℕ) (lanes : List Lane) → Each (Each (Numbered (pairs_of set))) lanes → Packing n (pairs_of set) lanes → SoundLanes set n lanes
    packing_sound n lanes e p = record {
      wide = p.wide;
      sound = each_of (SoundLane set) lanes [] (λ i h. record {
        drawn = lane-drawn (get_or lanes i []) (each-numbered lanes i e) (λ w m k. omega (arith, p.once w m, in_lanes w m lanes i k));
        light = p.thin i;
      });
    }
      where
        each-numbered : (ls : List Lane) (i : ℕ) → Each (Each (Numbered (pairs_of set))) ls → Each (Numbered (pairs_of set)) (get_or ls i [])
        each-numbered [] i h = tt
        each-numbered (l ∷ ls) zero h = h.0
        each-numbered (l ∷ ls) (suc i) h = each-numbered ls i h.1

  -- and the other way round
  drawn-numbered : (p : Pair) → Drawn set p → Numbered (pairs_of set) p
  drawn-numbered p d =
      let word_is : p.word ≡ get_or set (2 * p.at) 0 = ap (λ (q : Pair). q.word) d.same in
      let mask_is : p.mask ≡ get_or set (2 * p.at + 1) 0 = ap (λ (q : Pair). q.mask) d.same in
      let is_at : pair_index (pairs_of set) p.word p.mask ≡ p.at = rw (word_is, mask_is) (pair_number p.at d.in_set) in
      let there : 0 < times p.word p.mask (pairs_of set) = rw (word_is, mask_is) (pair_times p.at d.in_set) in
      record { same = rw is_at; some-mask = mask_some (pairs_of set) form _ _ there }

  lane-numbered : (l : Lane) → Each (Drawn set) l → Each (Numbered (pairs_of set)) l
  lane-numbered [] d = tt
  lane-numbered (p ∷ l) d = (drawn-numbered p d.0, lane-numbered l d.1)

  pub sound_numbered : (ls : List Lane) → Each (SoundLane set) ls → Each (Each (Numbered (pairs_of set))) ls
  sound_numbered [] d = tt
  sound_numbered (l ∷ ls) d = (lane-numbered l d.0.drawn, sound_numbered ls d.1)
