-- Document 02, 8/13, "accept it exactly when": for a set in form nothing is wrong with lanes where they are a packing of it, and only there. Pairs that
-- belong are pairs of the set, none of them twice; and where each pair of the set stands, it then stands as often as in the set.
-- Assumes nothing.
use mathlib.Core.Path.{◌≡◌, refl, sym, ◌∙◌}
use mathlib.Core.Bool.{Bool, true, false, ◌&&◌}
use mathlib.Core.Option.{Option, none, some}
use mathlib.Core.List.{List, [], ◌∷◌, ◌++◌}
use mathlib.Core.Logic.{⊎_elim, ◌↔◌}
use Prim.Native.Nat.{ℕ, zero, suc, ◌+◌, ◌*◌, ◌≤◌, ◌<◌}
use native.Mathlib.Omega.{arith}
use borrow.Author.Tests.{ltb-true, leb-true, eqb-true, lt-ltb, le-leb, eq-eqb}
use lib.Dec.{leb, ltb, eqb}
use lib.ListN.{length, get_or}
use Rattle.words.proofs.BitLaws.{lt_or_ge, test_le}
use Rattle.words.proofs.TestLaws.{and_true, true_and, some_not_none}
use Rattle.reads.specs.ReadSet.{Pair, bits, total, broken}
use Rattle.reads.specs.Search.{Lane, joined, lanes_of}
use Rattle.reads.specs.Packing.{times, Packing}
use Rattle.reads.proofs.PackingLaws.{times_nil, times_cons, times_append, times_joined, lanes_packing}
use Rattle.reads.proofs.SetLaws.{times_here, times_cases, pair_once}
use Rattle.handed_lanes.specs.Handed.{belongs, bad_from, bad_pair, all_stand, whole, fault}

-- ---- one pair

pub times_one : (w m : ℕ) (p : Pair) → times w m (p ∷ []) ≤ 1
unfolding times
times_one w m p = test_le (eqb p.word w && eqb p.mask m)

-- a pair that is not of this word and mask adds nothing
pub one_is : (w m : ℕ) (p : Pair) → 0 < times w m (p ∷ []) → (p.word ≡ w) × (p.mask ≡ m)
one_is w m p h = ⊎_elim (λ q. q) (λ l. absurd (omega (arith, times_nil w m))) (times_cases w m p [] h)

module _ (ps : List Pair) where
  -- what a pair that belongs is
  pub record Belongs (stood : List Pair) (b : ℕ) (p : Pair) : Type 0 where
    pub of_set : 0 < times p.word p.mask ps
    pub first : times p.word p.mask stood ≡ 0
    pub fits : b + bits p ≤ 32

  pub belongs_is : (stood : List Pair) (b : ℕ) (p : Pair) → belongs ps stood b p ≡ true → Belongs stood b p
  unfolding belongs
  belongs_is stood b p e =
      let t = and_true _ (leb (b + bits p) 32) e in
      let s = and_true (ltb 0 (times p.word p.mask ps)) _ t.0 in
      record { of_set = ltb-true _ _ s.0; first = eqb-true _ _ s.1; fits = leb-true _ _ t.1 }

  pub is_belongs : (stood : List Pair) (b : ℕ) (p : Pair) → Belongs stood b p → belongs ps stood b p ≡ true
  unfolding belongs
  is_belongs stood b p h = true_and _ _ (true_and _ _ (lt-ltb _ _ h.of_set) (eq-eqb _ _ h.first)) (le-leb _ _ h.fits)

  -- ---- a lane, step by step

  pub bad_next : (stood : List Pair) (b x : ℕ) (p : Pair) (l : Lane) → belongs ps stood b p ≡ true
      → bad_from ps stood b x (p ∷ l) ≡ bad_from ps (stood ++ p ∷ []) (b + bits p) (x + 1) l
  unfolding bad_from
  bad_next stood b x p l e = rw (e, bad_from)

  pub bad_here : (stood : List Pair) (b x : ℕ) (p : Pair) (l : Lane) → belongs ps stood b p ≡ false → bad_from ps stood b x (p ∷ l) ≡ some x
  unfolding bad_from
  bad_here stood b x p l e = rw (e, bad_from)

  -- a lane with no bad pair: its pairs are of the set, none stood before, and it has room for them
  record Clean (stood : List Pair) (b : ℕ) (l : Lane) : Type 0 where
    of_set : (w m : ℕ) → 0 < times w m l → 0 < times w m ps
    once : (w m : ℕ) → times w m stood ≤ 1 → times w m stood + times w m l ≤ 1
    light : b ≤ 32 → b + total l ≤ 32

  clean : (stood : List Pair) (b x : ℕ) (l : Lane) → bad_from ps stood b x l ≡ none → Clean stood b l
  unfolding total
  clean stood b x [] e = record {
    of_set = λ w m h. absurd (omega (arith, times_nil w m));
    once = λ w m h. omega (arith, times_nil w m);
    light = λ h. omega arith;
  }
  clean stood b x (p ∷ l) e = go (belongs ps stood b p) refl (clean (stood ++ p ∷ []) (b + bits p) (x + 1) l)
    where
      go : (t : Bool) → belongs ps stood b p ≡ t
          → (bad_from ps (stood ++ p ∷ []) (b + bits p) (x + 1) l ≡ none → Clean (stood ++ p ∷ []) (b + bits p) l) → Clean stood b (p ∷ l)
      go false t r = absurd (some_not_none (sym (bad_here stood b x p l t) ∙ e))
      go true t r =
          let here = belongs_is stood b p t in
          let rest = r (sym (bad_next stood b x p l t) ∙ e) in
          record {
            of_set = λ w m h. ⊎_elim (λ q. rw (← q.0, ← q.1) here.of_set) (λ k. rest.of_set w m k) (times_cases w m p l h);
            once = λ w m h.
                let more = times_append w m stood (p ∷ []) in
                let one_more : times w m (stood ++ p ∷ []) ≤ 1 =
                ⊎_elim (λ k. let q = one_is w m p k in omega (arith, more, times_one w m p, rw (q.0, q.1) at here.first)) (λ k. omega (arith, more)) (lt_or_ge 0 (times w m (p ∷ []))) in
                omega (arith, rest.once w m one_more, more, times_cons w m p l);
            light = λ h. omega (arith, rest.light here.fits);
          }

  -- ---- the lanes, step by step

  pub pair_next : (stood : List Pair) (i : ℕ) (l : Lane) (ls : List Lane) → bad_from ps stood 0 (64 * i) l ≡ none
      → bad_pair ps stood i (l ∷ ls) ≡ bad_pair ps (stood ++ l) (i + 1) ls
  unfolding bad_pair
  pair_next stood i l ls e = rw (e, bad_pair)

  pub pair_here : (stood : List Pair) (i x : ℕ) (l : Lane) (ls : List Lane) → bad_from ps stood 0 (64 * i) l ≡ some x → bad_pair ps stood i (l ∷ ls) ≡ some x
  unfolding bad_pair
  pair_here stood i x l ls e = rw (e, bad_pair)

  -- the same of lanes
  record CleanLanes (stood : List Pair) (ls : List Lane) : Type 0 where
    of_set : (w m : ℕ) → 0 < times w m (joined ls) → 0 < times w m ps
    once : (w m : ℕ) → times w m stood ≤ 1 → times w m stood + times w m (joined ls) ≤ 1
    thin : (j : ℕ) → total (get_or ls j []) ≤ 32

  clean-lanes : (stood : List Pair) (i : ℕ) (ls : List Lane) → bad_pair ps stood i ls ≡ none → CleanLanes stood ls
  unfolding joined total
  clean-lanes stood i [] e = record {
    of_set = λ w m h. absurd (omega (arith, times_nil w m));
    once = λ w m h. omega (arith, times_nil w m);
    thin = λ j. omega arith;
  }
  clean-lanes stood i (l ∷ ls) e = go (bad_from ps stood 0 (64 * i) l) refl (clean-lanes (stood ++ l) (i + 1) ls)
    where
      lane-thin : total l ≤ 32 → ((j : ℕ) → total (get_or ls j []) ≤ 32) → (j : ℕ) → total (get_or (l ∷ ls) j []) ≤ 32
      lane-thin h r zero = h
      lane-thin h r (suc j) = r j

      go : (o : Option ℕ) → bad_from ps stood 0 (64 * i) l ≡ o → (bad_pair ps (stood ++ l) (i + 1) ls ≡ none → CleanLanes (stood ++ l) ls) → CleanLanes stood (l ∷ ls)
      go (some x) o r = absurd (some_not_none (sym (pair_here stood i x l ls o) ∙ e))
      go none o r =
          let here = clean stood 0 (64 * i) l o in
          let rest = r (sym (pair_next stood i l ls o) ∙ e) in
          record {
            of_set = λ w m h. ⊎_elim (λ k. here.of_set w m k) (λ k. rest.of_set w m (omega (arith, times_append w m l (joined ls)))) (lt_or_ge 0 (times w m l));
            once = λ w m h.
                let so_far = here.once w m h in
                omega (arith, rest.once w m (omega (arith, times_append w m stood l)), times_append w m stood l, times_append w m l (joined ls));
            thin = lane-thin (omega (arith, here.light (omega arith))) rest.thin;
          }

  -- ---- each pair of the set stands

  pub stand_at : (qs rs : List Pair) (w m : ℕ) → all_stand rs qs ≡ true → 0 < times w m rs → 0 < times w m qs
  unfolding all_stand
  stand_at qs [] w m e h = absurd (omega (arith, times_nil w m))
  stand_at qs (r ∷ rs) w m e h =
      let t = and_true (ltb 0 (times r.word r.mask qs)) _ e in
      ⊎_elim (λ q. rw (← q.0, ← q.1) (ltb-true _ _ t.0)) (λ k. stand_at qs rs w m t.1 k) (times_cases w m r rs h)

  pub at_stand : (qs rs : List Pair) → ((w m : ℕ) → 0 < times w m rs → 0 < times w m qs) → all_stand rs qs ≡ true
  unfolding all_stand
  at_stand qs [] h = refl
  at_stand qs (r ∷ rs) h =
      true_and _ _ (lt-ltb _ _ (h r.word r.mask (times_here r rs))) (at_stand qs rs (λ w m k. h w m (omega (arith, times_cons w m r rs))))

  -- ---- a packing has no bad pair

  no-bad : (stood : List Pair) (b x : ℕ) (l : Lane) → ((w m : ℕ) → 0 < times w m l → 0 < times w m ps)
      → ((w m : ℕ) → times w m stood + times w m l ≤ 1) → b + total l ≤ 32 → bad_from ps stood b x l ≡ none
  unfolding bad_from total
  no-bad stood b x [] of_set once light = refl
  no-bad stood b x (p ∷ l) of_set once light =
      let here = times_here p l in
      let right = is_belongs stood b p (record { of_set = of_set _ _ here; first = omega (arith, once p.word p.mask); fits = omega arith }) in
      bad_next stood b x p l right
      ∙ no-bad (stood ++ p ∷ []) (b + bits p) (x + 1) l (λ w m h. of_set w m (omega (arith, times_cons w m p l)))
      (λ w m. omega (arith, once w m, times_append w m stood (p ∷ []), times_cons w m p l)) (omega arith)

  no-bad-pair : (stood : List Pair) (i : ℕ) (ls : List Lane) → ((w m : ℕ) → 0 < times w m (joined ls) → 0 < times w m ps)
      → ((w m : ℕ) → times w m stood + times w m (joined ls) ≤ 1) → ((j : ℕ) → total (get_or ls j []) ≤ 32) → bad_pair ps stood i ls ≡ none
  unfolding bad_pair
  no-bad-pair stood i [] of_set once thin = refl
  no-bad-pair stood i (l ∷ ls) of_set once thin =
      let fine = no-bad stood 0 (64 * i) l (λ w m h. of_set w m (omega (arith, times_joined w m l ls))) (λ w m. omega (arith, once w m, times_joined w m l ls)) (omega (arith, thin 0)) in
      pair_next stood i l ls fine
      ∙ no-bad-pair (stood ++ l) (i + 1) ls (λ w m h. of_set w m (omega (arith, times_joined w m l ls)))
      (λ w m. omega (arith, once w m, times_append w m stood l, times_joined w m l ls)) (λ j. thin (suc j))

-- ---- exactly when

module _ (n : ℕ) (ps : List Pair) (lanes : List Lane) where
  -- nothing is wrong: no bad pair, n lanes, each pair stands
  pub record Faultless : Type 0 where
    pub no_bad_one : bad_pair ps [] 0 lanes ≡ none
    pub wide : length lanes ≡ n
    pub stand : all_stand ps (joined lanes) ≡ true

  whole_is : whole n ps lanes ≡ true → (length lanes ≡ n) × (all_stand ps (joined lanes) ≡ true)
  unfolding whole
  whole_is e =
      let s = and_true _ (all_stand ps (joined lanes)) e in
      (eqb-true _ _ s.0, s.1)

  is_whole : length lanes ≡ n → all_stand ps (joined lanes) ≡ true → whole n ps lanes ≡ true
  unfolding whole
  is_whole h k = true_and _ _ (eq-eqb _ _ h) k

  pub fault_none : fault n ps lanes ≡ none → Faultless
  unfolding fault
  fault_none e = go (bad_pair ps [] 0 lanes) refl (whole n ps lanes) refl
    where
      go : (o : Option ℕ) → bad_pair ps [] 0 lanes ≡ o → (t : Bool) → whole n ps lanes ≡ t → Faultless
      go (some x) o t q = absurd (some_not_none (rw (o, fault) at e))
      go none o false q = absurd (some_not_none (rw (o, q, fault) at e))
      go none o true q = let s = whole_is q in record { no_bad_one = o; wide = s.0; stand = s.1 }

  pub none_fault : Faultless → fault n ps lanes ≡ none
  unfolding fault
  none_fault h = rw (h.no_bad_one, is_whole h.wide h.stand, fault)

  pub bad_fault : (x : ℕ) → bad_pair ps [] 0 lanes ≡ some x → fault n ps lanes ≡ some x
  unfolding fault
  bad_fault x e = rw (e, fault)

  pub count_fault : bad_pair ps [] 0 lanes ≡ none → whole n ps lanes ≡ false → fault n ps lanes ≡ some (64 * length lanes)
  unfolding fault
  count_fault e f = rw (e, f, fault)

  module _ (form : broken ps ≡ none) where
    fault-packing : fault n ps lanes ≡ none → Packing n ps lanes
    fault-packing e =
        let h = fault_none e in
        let c = clean-lanes ps [] 0 lanes h.no_bad_one in
        record {
          wide = h.wide;
          once = λ w m.
              let most : times w m (joined lanes) ≤ 1 = omega (arith, c.once w m (omega (arith, times_nil w m))) in
              ⊎_elim
              (λ k. omega (arith, c.of_set w m k, pair_once ps form w m))
              (λ k. ⊎_elim (λ l. absurd (omega (arith, stand_at ps (joined lanes) ps w m h.stand l))) (λ l. omega arith) (lt_or_ge 0 (times w m ps)))
              (lt_or_ge 0 (times w m (joined lanes)));
          thin = c.thin;
        }

    packing-fault : Packing n ps lanes → fault n ps lanes ≡ none
    packing-fault p = none_fault (record {
      no_bad_one = no-bad-pair ps [] 0 lanes (λ w m h. omega (arith, p.once w m)) (λ w m. omega (arith, p.once w m, times_nil w m, pair_once ps form w m)) p.thin;
      wide = p.wide;
      stand = at_stand ps (joined lanes) ps (λ w m h. omega (arith, p.once w m));
    })

    -- "Accept it exactly when": the plain statement of a packing is what is asked.
    pub exactly_when : (fault n ps lanes ≡ none) ↔ Packing n ps lanes
    exactly_when = (fault-packing, packing-fault)

    -- "Our own search's result must always pass."
    pub own_passes : 0 < n → lanes_of n ps ≡ some lanes → fault n ps lanes ≡ none
    own_passes h e = packing-fault (lanes_packing n ps lanes e h)
