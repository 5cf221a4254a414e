-- Lists in which each pair stands equally often weigh the same, whatever a pair weighs: by taking one pair out of both. So a packing weighs what
-- its set does, and at most what its lanes can hold.
-- Assumes nothing.
use mathlib.Core.Path.{◌≡◌, refl}
use mathlib.Core.Bool.{Bool, true, false, ◌&&◌, and-eq-true_iff}
use mathlib.Core.List.{List, [], ◌∷◌, ◌++◌}
use Prim.Native.Nat.{ℕ, suc, ◌+◌, ◌*◌, ◌≤◌, ◌<◌}
use native.Mathlib.Omega.{arith}
use borrow.Author.Tests.{eqb-true}
use lib.Dec.{eqb}
use lib.ListN.{length, get_or}
use Rattle.reads.specs.ReadSet.{Pair, bits, total}
use Rattle.reads.specs.Search.{Lane, joined}
use Rattle.reads.specs.Packing.{times, Packing, weigh}
use Rattle.reads.proofs.PackingLaws.{times_nil, times_cons}
use Rattle.reads.proofs.SetLaws.{times_here}

-- f sees word and mask alone
abbrev pub Plain : (Pair → ℕ) → Type 0
Plain f = (p q : Pair) → p.word ≡ q.word → p.mask ≡ q.mask → f p ≡ f q

-- ---- one pair taken out

-- the list without its first pair of q's word and mask
unfoldable without : Pair → List Pair → List Pair
without q [] = []
without q (p ∷ ps) = elim (eqb p.word q.word && eqb p.mask q.mask) [ true ↦ ps | false ↦ p ∷ without q ps ]

alike : (p q : Pair) → (p.word ≡ q.word) × (p.mask ≡ q.mask) → (w m : ℕ) → times w m (p ∷ []) ≡ times w m (q ∷ [])
unfolding times
alike p q e w m = rw (e.0, e.1)

is_same : (p q : Pair) → eqb p.word q.word && eqb p.mask q.mask ≡ true → (p.word ≡ q.word) × (p.mask ≡ q.mask)
is_same p q t =
    let e = (and-eq-true_iff (eqb p.word q.word) (eqb p.mask q.mask)).0 t in
    (eqb-true p.word q.word e.0, eqb-true p.mask q.mask e.1)

-- what is taken out is the pair, once
record Taken (q : Pair) (ps : List Pair) : Type 1 where
  counts : (w m : ℕ) → times w m ps ≡ times w m (q ∷ []) + times w m (without q ps)
  weighs : (f : Pair → ℕ) → Plain f → weigh f ps ≡ f q + weigh f (without q ps)

taken : (q : Pair) (ps : List Pair) → 0 < times q.word q.mask ps → Taken q ps
unfolding without weigh times
taken q [] h = absurd (omega (arith, times_nil q.word q.mask))
taken q (p ∷ ps) h = go (eqb p.word q.word && eqb p.mask q.mask) refl (taken q ps)
  where
    go : (t : Bool) → eqb p.word q.word && eqb p.mask q.mask ≡ t → (0 < times q.word q.mask ps → Taken q ps) → Taken q (p ∷ ps)
    go true t r =
        let e = is_same p q t in
        record {
          counts = λ w m. rw (t, without) (omega (arith, times_cons w m p ps, alike p q e w m));
          weighs = λ f plain. rw (t, without) (omega (arith, plain p q e.0 e.1));
        }
    go false t r =
        let there : 0 < times q.word q.mask ps = rw (t, times) at h in
        let s = r there in
        record {
          counts = λ w m. rw (t, without) (omega (arith, s.counts w m, times_cons w m p ps, times_cons w m p (without q ps)));
          weighs = λ f plain. rw (t, without) (omega (arith, s.weighs f plain));
        }

-- ---- equal weights

pub weigh_same : (f : Pair → ℕ) → Plain f → (xs ys : List Pair) → ((w m : ℕ) → times w m xs ≡ times w m ys) → weigh f xs ≡ weigh f ys
unfolding weigh
weigh_same f plain [] [] h = refl
weigh_same f plain [] (b ∷ ys) h = absurd (omega (arith, h b.word b.mask, times_here b ys, times_nil b.word b.mask))
weigh_same f plain (a ∷ xs) ys h =
    let t = taken a ys (omega (arith, h a.word a.mask, times_here a xs)) in
    let rest = weigh_same f plain xs (without a ys) (λ w m. omega (arith, h w m, t.counts w m, times_cons w m a xs)) in
    omega (arith, t.weighs f plain, rest)

pub weigh_append : (f : Pair → ℕ) (a b : List Pair) → weigh f (a ++ b) ≡ weigh f a + weigh f b
unfolding weigh
weigh_append f [] b = omega arith
weigh_append f (p ∷ a) b = omega (arith, weigh_append f a b)

pub weigh_bits : (ps : List Pair) → weigh (λ p. bits p) ps ≡ total ps
unfolding weigh total
weigh_bits [] = refl
weigh_bits (p ∷ ps) = omega (arith, weigh_bits ps)

-- lanes of weight b at most
lanes_at_most : (f : Pair → ℕ) (b : ℕ) (lanes : List Lane) → ((i : ℕ) → weigh f (get_or lanes i []) ≤ b) → weigh f (joined lanes) ≤ b * length lanes
unfolding joined weigh
lanes_at_most f b [] h = omega arith
lanes_at_most f b (l ∷ ls) h = omega (arith, h 0, weigh_append f l (joined ls), lanes_at_most f b ls (λ i. h (suc i)))

-- so the set of a packing weighs at most b for each lane, where a lane of 32 bits does
pub packing_weighs : (f : Pair → ℕ) → Plain f → (b : ℕ) → ((l : Lane) → total l ≤ 32 → weigh f l ≤ b)
    → (n : ℕ) (ps : List Pair) (lanes : List Lane) → Packing n ps lanes → weigh f ps ≤ b * n
packing_weighs f plain b most n ps lanes p =
    let same = weigh_same f plain (joined lanes) ps p.once in
    let all_lanes = lanes_at_most f b lanes (λ i. most (get_or lanes i []) (p.thin i)) in
    rw (← p.wide) (omega (arith, all_lanes, same))
