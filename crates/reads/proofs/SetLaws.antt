-- A read set in the form that refusal 2 asks, said of each word and mask that stands in it (`0 < times w m ps`), so that a packing carries it over.
-- Assumes nothing.
use mathlib.Core.Path.{◌≡◌, refl, sym, ◌∙◌}
use mathlib.Core.Bool.{Bool, true, false, ◌&&◌, and-eq-true_iff}
use mathlib.Core.Option.{none, some}
use mathlib.Core.List.{List, [], ◌∷◌}
use mathlib.Core.Logic.{◌⊎◌, inl, inr, ⊎_elim}
use Prim.Native.Nat.{ℕ, zero, suc, ◌+◌, ◌%◌, ◌^◌, ◌≤◌, ◌<◌}
use native.Mathlib.Nat.{not-suc-le-zero, le_of_suc-le-suc}
use native.Mathlib.Omega.{arith}
use borrow.Author.Tests.{ltb-true, leb-true, eqb-true, eq-eqb}
use lib.Dec.{leb, ltb, eqb}
use lib.ListN.{length, get_or}
use Rattle.words.proofs.BitLaws.{lt_or_ge, test_le}
use Rattle.reads.specs.ReadSet.{Pair, pairs_from, pair_form, broken_from, broken}
use Rattle.reads.specs.Packing.{times}
use Rattle.reads.proofs.PackingLaws.{times_nil, times_cons}

-- ---- what stands in a list of pairs

pub times_here : (p : Pair) (ps : List Pair) → 0 < times p.word p.mask (p ∷ ps)
unfolding times
times_here p ps = rw (eq-eqb p.word p.word refl, eq-eqb p.mask p.mask refl, times) (omega arith)

pub times_at : (ps : List Pair) (i : ℕ) (d : Pair) → i < length ps → 0 < times (get_or ps i d).word (get_or ps i d).mask ps
times_at [] i d h = absurd (not-suc-le-zero h)
times_at (p ∷ ps) zero d h = times_here p ps
times_at (p ∷ ps) (suc i) d h =
    let q = get_or ps i d in
    omega (arith, times_at ps i d (le_of_suc-le-suc h), times_cons q.word q.mask p ps)

pub times_cases : (w m : ℕ) (p : Pair) (ps : List Pair) → 0 < times w m (p ∷ ps) → ((p.word ≡ w) × (p.mask ≡ m)) ⊎ (0 < times w m ps)
unfolding times
times_cases w m p ps h = go (eqb p.word w && eqb p.mask m) refl
  where
    go : (t : Bool) → eqb p.word w && eqb p.mask m ≡ t → ((p.word ≡ w) × (p.mask ≡ m)) ⊎ (0 < times w m ps)
    go true t =
        let e = (and-eq-true_iff (eqb p.word w) (eqb p.mask m)).0 t in
        inl (eqb-true p.word w e.0, eqb-true p.mask m e.1)
    go false t = inr (rw (t, times) at h)

-- ---- the form

-- one pair that keeps it
record Kept (low : ℕ) (p : Pair) (ps : List Pair) : Type 0 where
  ascending : low ≤ p.word
  word : p.word % 2 ^ 31 < 2 ^ 27
  mask : 0 < p.mask
  rest : broken_from (p.word + 1) ps ≡ none

kept : (low : ℕ) (p : Pair) (ps : List Pair) → broken_from low (p ∷ ps) ≡ none → Kept low p ps
unfolding broken_from pair_form
kept low p ps e = go (leb low p.word && pair_form p) refl
  where
    go : (t : Bool) → leb low p.word && pair_form p ≡ t → Kept low p ps
    go false t =
        let q : some p.at ≡ none = rw (t, broken_from) at e in
        let z : ◌≡◌ {A = ℕ} 0 1 = cc in
        absurd (omega arith)
    go true t =
        let a = (and-eq-true_iff (leb low p.word) (ltb (p.word % 2 ^ 31) (2 ^ 27) && ltb 0 p.mask)).0 t in
        let b = (and-eq-true_iff (ltb (p.word % 2 ^ 31) (2 ^ 27)) (ltb 0 p.mask)).0 a.1 in
        record {
          ascending = leb-true low p.word a.0;
          word = ltb-true (p.word % 2 ^ 31) (2 ^ 27) b.0;
          mask = ltb-true 0 p.mask b.1;
          rest = rw (t, broken_from) at e;
        }

-- what stands in a set that keeps it
record Stands (low w m : ℕ) : Type 0 where
  above : low ≤ w
  word : w % 2 ^ 31 < 2 ^ 27
  mask : 0 < m

stands : (low : ℕ) (ps : List Pair) → broken_from low ps ≡ none → (w m : ℕ) → 0 < times w m ps → Stands low w m
stands low [] e w m h = absurd (omega (arith, times_nil w m))
stands low (p ∷ ps) e w m h =
    let k = kept low p ps e in
    ⊎_elim (λ q. record { above = rw (← q.0) k.ascending; word = rw (← q.0) k.word; mask = rw (← q.1) k.mask })
    (λ l. let s = stands (p.word + 1) ps k.rest w m l in record { above = omega (arith, s.above, k.ascending); word = s.word; mask = s.mask })
    (times_cases w m p ps h)

same_mask : (low : ℕ) (ps : List Pair) → broken_from low ps ≡ none → (w m n : ℕ) → 0 < times w m ps → 0 < times w n ps → m ≡ n
same_mask low [] e w m n h l = absurd (omega (arith, times_nil w m))
same_mask low (p ∷ ps) e w m n h l =
    let k = kept low p ps e in
    let past : (x : ℕ) → 0 < times w x ps → p.word + 1 ≤ w = λ x q. (stands (p.word + 1) ps k.rest w x q).above in
    ⊎_elim
    (λ a. ⊎_elim (λ b. sym a.1 ∙ b.1) (λ b. absurd (omega (arith, a.0, past n b))) (times_cases w n p ps l))
    (λ a. ⊎_elim (λ b. absurd (omega (arith, b.0, past m a))) (λ b. same_mask (p.word + 1) ps k.rest w m n a b) (times_cases w n p ps l))
    (times_cases w m p ps h)

at_most_one : (w m : ℕ) (p : Pair) → times w m (p ∷ []) ≤ 1
unfolding times
at_most_one w m p = test_le (eqb p.word w && eqb p.mask m)

stands_once : (low : ℕ) (ps : List Pair) → broken_from low ps ≡ none → (w m : ℕ) → times w m ps ≤ 1
stands_once low [] e w m = omega (arith, times_nil w m)
stands_once low (p ∷ ps) e w m =
    let k = kept low p ps e in
    let here : 0 < times w m (p ∷ []) → p.word ≡ w = λ h. ⊎_elim (λ q. q.0) (λ l. absurd (omega (arith, times_nil w m))) (times_cases w m p [] h) in
    let rest : times w m ps ≤ 1 = stands_once (p.word + 1) ps k.rest w m in
    ⊎_elim
    (λ there. ⊎_elim
    (λ h. absurd (omega (arith, here h, (stands (p.word + 1) ps k.rest w m there).above)))
    (λ l. omega (arith, times_cons w m p ps))
    (lt_or_ge 0 (times w m (p ∷ []))))
    (λ l. omega (arith, times_cons w m p ps, at_most_one w m p))
    (lt_or_ge 0 (times w m ps))

module _ (ps : List Pair) (form : broken ps ≡ none) where
  pub mask_some : (w m : ℕ) → 0 < times w m ps → 0 < m
  mask_some w m h = (stands 0 ps form w m h).mask

  -- a word has one mask
  pub mask_one : (w m n : ℕ) → 0 < times w m ps → 0 < times w n ps → m ≡ n
  mask_one w m n h l = same_mask 0 ps form w m n h l

  -- "a set has no pair twice"
  pub pair_once : (w m : ℕ) → times w m ps ≤ 1
  pair_once w m = stands_once 0 ps form w m

-- ---- the pairs of a lent slice are as small as its words

pub pairs_small : (i : ℕ) (ws : List ℕ) (b : ℕ) → ((x : ℕ) → get_or ws x 0 < b) → (w m : ℕ) → 0 < times w m (pairs_from i ws) → (w < b) × (m < b)
unfolding pairs_from
pairs_small i [] b f w m h = absurd (omega (arith, times_nil w m))
pairs_small i (v ∷ []) b f w m h =
    ⊎_elim (λ q. (rw (← q.0) (f 0), rw (← q.1) (f 1))) (λ l. absurd (omega (arith, times_nil w m))) (times_cases w m _ [] h)
pairs_small i (v ∷ n ∷ ws) b f w m h =
    ⊎_elim (λ q. (rw (← q.0) (f 0), rw (← q.1) (f 1)))
    (λ l. pairs_small (i + 1) ws b (λ x. f (suc (suc x))) w m l)
    (times_cases w m _ (pairs_from (i + 1) ws) h)
