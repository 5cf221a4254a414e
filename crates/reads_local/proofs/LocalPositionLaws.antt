-- What the stores leave at a pair of the lanes: 32·lane and the bits of later rounds, since no pair stands twice. So a requested bit is found at
-- its local position.
-- Assumes nothing.
use mathlib.Core.Path.{◌≡◌, refl, sym, ap, ap₂, ◌∙◌}
use mathlib.Core.Bool.{Bool, true, false}
use mathlib.Core.Option.{none, some}
use mathlib.Core.List.{List, [], ◌∷◌, ◌++◌}
use mathlib.Core.Logic.{⊎_elim}
use Prim.Native.Nat.{ℕ, zero, suc, ◌+◌, ◌-◌, ◌*◌, ◌/◌, ◌%◌, ◌^◌, ◌≤◌, ◌<◌}
use native.Mathlib.Nat.{not-suc-le-zero, add-zero}
use native.Mathlib.Omega.{arith}
use borrow.Author.Tests.{eq-eqb, ne_eqb, eqb-true, eqb-false}
use lib.Dec.{eqb}
use lib.ListN.{length, get_or}
use lib.Seq.{get_or-set_same, get_or-set_other}
use Rattle.words.specs.Bit.{pop}
use Rattle.words.proofs.BitLaws.{lt_or_ge}
use Rattle.reads.specs.ReadSet.{Pair, total, pairs_of, broken}
use Rattle.reads.specs.Search.{Lane, joined}
use Rattle.reads.specs.Packing.{times}
use Rattle.reads.specs.Local.{word_in, mask_in, later, local_at, local_of}
use Rattle.reads.proofs.PackingLaws.{times_cons}
use Rattle.reads.proofs.SetLaws.{times_here, pair_once}
use Rattle.reads.proofs.LocalLaws.{Requested, spotted, local_some}
use Rattle.reads.proofs.SetAnswerLaws.{Sound}
use Rattle.sort.specs.HalfSearch.{Monotone, least}
use Rattle.sort.proofs.HalfSearchLaws.{least_between, search_found}
use Rattle.reads_try.specs.TableLanes as decoded
use Rattle.reads_try.specs.TableLanes.{pair_at, Each, Drawn, SoundLanes}
use Rattle.reads_try.proofs.LaneTableLaws.{each_at, each_append}
use Rattle.reads_section.proofs.PairFormLaws.{brokenAt, bad_low, bad_word, bad_mask, good_pair}
use Rattle.reads_local.specs.Bases.{store_lane, store_lanes, pair_word_of, pair_of, local_by, Locatable}
use Rattle.reads_local.proofs.BaseLaws.{lane_length, lanes_length}

-- ---- how often a pair's number stands in a list of pairs

unfoldable count_at : ℕ → List Pair → ℕ
count_at e [] = 0
count_at e (p ∷ ps) = elim (eqb p.at e) [ true ↦ suc (count_at e ps) | false ↦ count_at e ps ]

count_here : (e : ℕ) (p : Pair) (ps : List Pair) → p.at ≡ e → count_at e (p ∷ ps) ≡ suc (count_at e ps)
unfolding count_at
count_here e p ps h = rw (eq-eqb _ _ h, count_at)

count_other : (e : ℕ) (p : Pair) (ps : List Pair) → (p.at ≡ e → ⊥) → count_at e (p ∷ ps) ≡ count_at e ps
unfolding count_at
count_other e p ps h = rw (ne_eqb _ _ h, count_at)

count_append : (e : ℕ) (a b : List Pair) → count_at e (a ++ b) ≡ count_at e a + count_at e b
unfolding count_at
count_append e [] b = omega arith
count_append e (p ∷ a) b = go (eqb p.at e) refl (count_append e a b)
  where
    go : (t : Bool) → eqb p.at e ≡ t → count_at e (a ++ b) ≡ count_at e a + count_at e b → count_at e ((p ∷ a) ++ b) ≡ count_at e (p ∷ a) + count_at e b
    go true t i = rw (t, count_at) (omega arith)
    go false t i = rw (t, count_at) i

count_some : (e : ℕ) (l : List Pair) (r : ℕ) (z : Pair) → r < length l → (get_or l r z).at ≡ e → 0 < count_at e l
count_some e [] r z h a = absurd (not-suc-le-zero h)
count_some e (p ∷ l) zero z h a = omega (arith, count_here e p l a)
count_some e (p ∷ l) (suc r) z h a = go (eqb p.at e) refl (count_some e l r z (omega arith) a)
  where
    go : (t : Bool) → eqb p.at e ≡ t → 0 < count_at e l → 0 < count_at e (p ∷ l)
    go true t i = omega (arith, count_here e p l (eqb-true _ _ t))
    go false t i = omega (arith, count_other e p l (eqb-false _ _ t))

-- no more often than its word and mask
count_times : (ws : List ℕ) (e : ℕ) (l : List Pair) → Each (Drawn ws) l → count_at e l ≤ times (get_or ws (2 * e) 0) (get_or ws (2 * e + 1) 0) l
unfolding count_at
count_times ws e [] h = omega arith
count_times ws e (p ∷ l) h = go (eqb p.at e) refl (count_times ws e l h.1) (times_cons (get_or ws (2 * e) 0) (get_or ws (2 * e + 1) 0) p l)
  where
    go : (t : Bool) → eqb p.at e ≡ t → count_at e l ≤ times (get_or ws (2 * e) 0) (get_or ws (2 * e + 1) 0) l
        → times (get_or ws (2 * e) 0) (get_or ws (2 * e + 1) 0) (p ∷ l) ≡ times (get_or ws (2 * e) 0) (get_or ws (2 * e + 1) 0) (p ∷ []) + times (get_or ws (2 * e) 0) (get_or ws (2 * e + 1) 0) l
        → count_at e (p ∷ l) ≤ times (get_or ws (2 * e) 0) (get_or ws (2 * e + 1) 0) (p ∷ l)
    go true t i c =
        let s : p ≡ pair_at ws e = h.0.same ∙ ap (pair_at ws) (eqb-true _ _ t) in
        let one : 0 < times (get_or ws (2 * e) 0) (get_or ws (2 * e + 1) 0) (p ∷ []) = rw s (times_here (pair_at ws e) []) in
        omega (arith, count_here e p l (eqb-true _ _ t))
    go false t i c = omega (arith, count_other e p l (eqb-false _ _ t))

drawn_joined : (ws : List ℕ) (ls : List Lane) → Each (decoded.SoundLane ws) ls → Each (Drawn ws) (joined ls)
unfolding joined
drawn_joined ws [] h = tt
drawn_joined ws (l ∷ ls) h = each_append (Drawn ws) l (joined ls) h.0.drawn (drawn_joined ws ls h.1)

-- ---- the stores

module _ (e : ℕ) where
  lane-kept : (b : ℕ) (l : Lane) (bases : List ℕ) → count_at e l ≡ 0 → get_or (store_lane b l bases) e 0 ≡ get_or bases e 0
  unfolding store_lane
  lane-kept b [] bases h = refl
  lane-kept b (p ∷ l) bases h =
      let other : p.at ≡ e → ⊥ = λ a. omega (arith, count_here e p l a) in
      get_or-set_other (store_lane b l bases) p.at e _ 0 (λ a. other (sym a)) ∙ lane-kept b l bases (sym (count_other e p l other) ∙ h)

  lane-stored : (b : ℕ) (l : Lane) (r : ℕ) (z : Pair) (bases : List ℕ) → r < length l → (get_or l r z).at ≡ e → count_at e l ≤ 1 → e < length bases
      → get_or (store_lane b l bases) e 0 ≡ b + total (later l r)
  unfolding store_lane later
  lane-stored b [] r z bases h a one room = absurd (not-suc-le-zero h)
  lane-stored b (p ∷ l) zero z bases h a one room =
      rw a (get_or-set_same (store_lane b l bases) e _ 0 (omega (arith, lane_length b l bases)))
  lane-stored b (p ∷ l) (suc r) z bases h a one room =
      let there = count_some e l r z (omega arith) a in
      let other : p.at ≡ e → ⊥ = λ s. omega (arith, count_here e p l s) in
      get_or-set_other (store_lane b l bases) p.at e _ 0 (λ s. other (sym s))
      ∙ lane-stored b l r z bases (omega arith) a (omega (arith, count_other e p l other)) room

  lanes-kept : (k : ℕ) (ls : List Lane) (bases : List ℕ) → count_at e (joined ls) ≡ 0 → get_or (store_lanes k ls bases) e 0 ≡ get_or bases e 0
  unfolding store_lanes joined
  lanes-kept k [] bases h = refl
  lanes-kept k (l ∷ ls) bases h =
      let s = count_append e l (joined ls) in
      lanes-kept (k + 1) ls (store_lane (32 * k) l bases) (omega arith) ∙ lane-kept (32 * k) l bases (omega arith)

  lanes-stored : (k : ℕ) (ls : List Lane) (i r : ℕ) (z : Pair) (bases : List ℕ) → i < length ls → r < length (get_or ls i []) → (get_or (get_or ls i []) r z).at ≡ e
      → count_at e (joined ls) ≤ 1 → e < length bases → get_or (store_lanes k ls bases) e 0 ≡ 32 * (k + i) + total (later (get_or ls i []) r)
  unfolding store_lanes joined
  lanes-stored k [] i r z bases h j a one room = absurd (not-suc-le-zero h)
  lanes-stored k (l ∷ ls) zero r z bases h j a one room =
      let s = count_append e l (joined ls) in
      let there = count_some e l r z j a in
      lanes-kept (k + 1) ls (store_lane (32 * k) l bases) (omega arith)
      ∙ (lane-stored (32 * k) l r z bases j a (omega arith) room ∙ rw (add-zero k))
  lanes-stored k (l ∷ ls) (suc i) r z bases h j a one room =
      let s = count_append e l (joined ls) in
      let n : (k + 1) + i ≡ k + suc i = omega arith in
      lanes-stored (k + 1) ls i r z (store_lane (32 * k) l bases) (omega arith) j a (omega arith) (omega (arith, lane_length (32 * k) l bases))
      ∙ rw n

-- ---- the words of a set in form ascend

-- a set in form from pair i on, with words from `low` on: it has a pair more, and is in form behind it
form_next : (ws : List ℕ) (i low : ℕ) → brokenAt ws i low ≡ none → i < length ws / 2 → (low ≤ pair_word_of ws i) × (brokenAt ws (i + 1) (pair_word_of ws i + 1) ≡ none)
form_next ws i low e h =
    let there : 2 * i + 1 < length ws = omega arith in
    let not_some : brokenAt ws i low ≡ some i → ⊥ = λ s.
    let z : none ≡ some i = sym e ∙ s in
    let q : ◌≡◌ {A = ℕ} 0 1 = cc in
    omega arith
    in
    ⊎_elim (λ l. absurd (not_some (bad_low ws i low there l)))
    (λ l. ⊎_elim
    (λ w. ⊎_elim (λ m. (l, sym (good_pair ws i low there l w m) ∙ e)) (λ m. absurd (not_some (bad_mask ws i low there l w (omega arith)))) (lt_or_ge 0 (get_or ws (2 * i + 1) 0)))
    (λ w. absurd (not_some (bad_word ws i low there l w)))
    (lt_or_ge (pair_word_of ws i % 2 ^ 31) (2 ^ 27)))
    (lt_or_ge (pair_word_of ws i) low)

form_low : (ws : List ℕ) (d i low : ℕ) → brokenAt ws i low ≡ none → i + d < length ws / 2 → low ≤ pair_word_of ws (i + d)
form_low ws zero i low e h = rw (add-zero i) (form_next ws i low e (omega arith)).0
form_low ws (suc d) i low e h =
    let n = form_next ws i low e (omega arith) in
    let same : i + 1 + d ≡ i + suc d = omega arith in
    omega (arith, n.0, rw same at (form_low ws d (i + 1) (pair_word_of ws i + 1) n.1 (omega arith)))

form_at : (ws : List ℕ) (i : ℕ) → broken (pairs_of ws) ≡ none → i ≤ length ws / 2 → (low : ℕ) × (brokenAt ws i low ≡ none)
form_at ws zero e h = (0, e)
form_at ws (suc i) e h =
    let (low, f) = form_at ws i e (omega arith) in
    let same : suc i ≡ i + 1 = omega arith in
    (pair_word_of ws i + 1, rw same (form_next ws i low f (omega arith)).1)

module _ (ws : List ℕ) (form : broken (pairs_of ws) ≡ none) where
  strict : (i j : ℕ) → i < j → j < length ws / 2 → pair_word_of ws i < pair_word_of ws j
  strict i j l h =
      let (low, f) = form_at ws i form (omega arith) in
      let n = form_next ws i low f (omega arith) in
      let same : i + 1 + (j - (i + 1)) ≡ j = omega arith in
      omega (arith, rw same at (form_low ws (j - (i + 1)) (i + 1) (pair_word_of ws i + 1) n.1 (omega arith)))

  pub form_monotone : Monotone (pair_word_of ws) (length ws / 2)
  form_monotone i j l h =
      ⊎_elim (λ s. omega (arith, strict i j s h)) (λ s. let e : i ≡ j = omega arith in rw e (omega arith)) (lt_or_ge i j)

  -- the search for a word ends at the pair that has it
  pub word_found : (w e : ℕ) → e < length ws / 2 → pair_word_of ws e ≡ w → least (pair_word_of ws) (length ws / 2) w ≡ e
  word_found w e h is =
      let f = search_found (pair_word_of ws) (length ws / 2) w (least (pair_word_of ws) (length ws / 2) w) e form_monotone (least_between (pair_word_of ws) (length ws / 2) w form_monotone) h is in
      let x = least (pair_word_of ws) (length ws / 2) w in
      ⊎_elim (λ l. absurd (omega (arith, strict x e l h, f.1)))
      (λ l. ⊎_elim (λ k. absurd (omega (arith, strict e x k f.0, f.1))) (λ k. omega arith) (lt_or_ge e x))
      (lt_or_ge x e)

-- ---- the local position of a requested bit

word_in_lem : (l : Lane) (r : ℕ) (z : Pair) → r < length l → word_in l r ≡ (get_or l r z).word
unfolding word_in
word_in_lem [] r z h = absurd (not-suc-le-zero h)
word_in_lem (p ∷ l) zero z h = refl
word_in_lem (p ∷ l) (suc r) z h = word_in_lem l r z (omega arith)

mask_in_lem : (l : Lane) (r : ℕ) (z : Pair) → r < length l → mask_in l r ≡ (get_or l r z).mask
unfolding mask_in
mask_in_lem [] r z h = absurd (not-suc-le-zero h)
mask_in_lem (p ∷ l) zero z h = refl
mask_in_lem (p ∷ l) (suc r) z h = mask_in_lem l r z (omega arith)

-- what is said of bit q
pub record LocalAt (n : ℕ) (ws : List ℕ) (lanes : List Lane) (bases : List ℕ) (q : ℕ) : Type 0 where
  pub placeable : Locatable ws bases q
  pub is : local_of lanes (q / 32) (q % 32) ≡ some (local_by ws bases q)
  pub below : local_by ws bases q < 32 * n

module _ (n : ℕ) (ws : List ℕ) (lanes : List Lane) (few : n ≤ 256) {k : ℕ} (sound : Sound n (pairs_of ws) (record { size = k; lanes = lanes })) (kept : SoundLanes ws n lanes) (bases : List ℕ) (room : length ws / 2 ≤ length bases) where
  pub local_is : (q : ℕ) → Requested (pairs_of ws) (q / 32) (q % 32) → LocalAt n ws lanes (store_lanes 0 lanes bases) q
  unfolding local_by local_at
  local_is q asked =
      let form = sound.passed.form in
      let s = spotted n (pairs_of ws) lanes sound.packing form (q / 32) asked.mask asked.stands in
      let i = s.spot.lane in
      let r = s.spot.round in
      let lane = get_or lanes i [] in
      let z = pair_at ws 0 in
      let x = get_or lane r z in
      let wide : i < length lanes = omega (arith, s.lane_there, kept.wide) in
      let drawn : Drawn ws x = each_at (Drawn ws) lane r z (each_at (decoded.SoundLane ws) lanes i [] kept.sound wide).drawn s.round_there in
      let e = x.at in
      let word : pair_word_of ws e ≡ q / 32 = sym (ap (λ (p : Pair). p.word) drawn.same) ∙ (sym (word_in_lem lane r z s.round_there) ∙ s.word) in
      let mask : get_or ws (2 * e + 1) 0 ≡ mask_in lane r = sym (ap (λ (p : Pair). p.mask) drawn.same) ∙ sym (mask_in_lem lane r z s.round_there) in
      let found : pair_of ws q ≡ e = word_found ws form (q / 32) e drawn.in_set word in
      let few-times = pair_once (pairs_of ws) form (get_or ws (2 * e) 0) (get_or ws (2 * e + 1) 0) in
      let once : count_at e (joined lanes) ≤ 1 =
      omega (arith, count_times ws e (joined lanes) (drawn_joined ws lanes kept.sound), sound.packing.once (get_or ws (2 * e) 0) (get_or ws (2 * e + 1) 0)) in
      let base : get_or (store_lanes 0 lanes bases) e 0 ≡ 32 * (0 + i) + total (later lane r) =
      lanes-stored e 0 lanes i r z bases wide s.round_there refl once (omega (arith, drawn.in_set)) in
      let at : local_of lanes (q / 32) (q % 32) ≡ some (local_at lanes i r (q % 32)) = local_some n lanes (q / 32) asked.mask (q % 32) s in
      let above : pop (get_or ws (2 * e + 1) 0 / 2 ^ (q % 32 + 1)) ≡ pop (mask_in lane r / 2 ^ (q % 32 + 1)) = ap (λ (m : ℕ). pop (m / 2 ^ (q % 32 + 1))) mask in
      let (p, at', low) = sound.positions.below (q / 32) (q % 32) asked in
      let whole : local_by ws (store_lanes 0 lanes bases) q ≡ local_at lanes i r (q % 32) = rw (found) (omega (arith, base, above)) in
      let same : some (local_at lanes i r (q % 32)) ≡ some p = sym at ∙ at' in
      let here : local_at lanes i r (q % 32) ≡ p = cc in
      record {
        placeable = record {
          order = form_monotone ws form;
          there = omega (arith, found, drawn.in_set);
          room = omega (arith, lanes_length 0 lanes bases);
          small = rw found (omega (arith, whole, here, base, above));
        };
        is = at ∙ ap some (sym whole);
        below = omega (arith, whole, here);
      }

-- ---- the pair that a search by halves finds

-- a bit whose word is not above a word of the set has 37 bits
pub asked_small : (ws bases : List ℕ) (q : ℕ) → Locatable ws bases q → ((i : ℕ) → get_or ws i 0 < 2 ^ 32) → q < 2 ^ 37
asked_small ws bases q l fits =
    let b = least_between (pair_word_of ws) (length ws / 2) (q / 32) l.order in
    omega (arith, b.over (pair_of ws q) (omega arith) l.there, fits (2 * pair_of ws q))

-- w is the bit's word, e the pair that is found for it
module _ (ws bases : List ℕ) (q w e : ℕ) (l : Locatable ws bases q) (word : w ≡ q / 32) (found : e ≡ least (pair_word_of ws) (length ws / 2) w) where
  found_pair : e ≡ pair_of ws q
  found_pair = found ∙ ap (least (pair_word_of ws) (length ws / 2)) word

  pub found_in : (2 * e + 1 < length ws) × (e < length bases)
  found_in = (omega (arith, found_pair, l.there), omega (arith, found_pair, l.there, l.room))

  pub found_base : get_or bases e 0 < 8192
  found_base = rw found_pair l.small

  -- m mask bits are above the bit's place k in its word
  pub found_local : (k m : ℕ) → k ≡ q % 32 → m ≡ pop (get_or ws (2 * e + 1) 0 / 2 ^ (k + 1)) → get_or bases e 0 + m ≡ local_by ws bases q
  unfolding local_by
  found_local k m place above =
      let base = ap (λ (x : ℕ). get_or bases x 0) found_pair in
      let more = above ∙ ap₂ (λ (x y : ℕ). pop (get_or ws (2 * x + 1) 0 / 2 ^ (y + 1))) found_pair place in
      ap₂ ◌+◌ base more
