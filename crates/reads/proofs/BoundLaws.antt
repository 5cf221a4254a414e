-- Document 02, 4/13: where no packing exists. A lane of 32 bits has 32 bits at most and one wide pair at most, so n lanes have n times as many.
-- Assumes nothing.
use mathlib.Core.Path.{◌≡◌, refl}
use mathlib.Core.Bool.{Bool, true, false}
use mathlib.Core.List.{List, [], ◌∷◌}
use Prim.Native.Nat.{ℕ, ◌+◌, ◌*◌, ◌≤◌, ◌<◌}
use native.Mathlib.Omega.{arith}
use borrow.Author.Tests.{leb-true}
use lib.Dec.{leb}
use Rattle.reads.specs.ReadSet.{Pair, bits, total}
use Rattle.reads.specs.Search.{Lane, all, try}
use Rattle.reads.specs.Packing.{Packing, weigh, wide_from, wide_mask, wide_pairs, TooManyBits, TooManyWide}
use Rattle.reads.proofs.PackingLaws.{try_packing}
use Rattle.reads.proofs.WeightLaws.{Plain, weigh_bits, packing_weighs}

bits_plain : Plain (λ p. bits p)
bits_plain p q e g = rw g

wide_plain : Plain (λ p. wide_mask p.mask)
wide_plain p q e g = rw g

-- a wide pair has more than half of 32 bits, so that a lane has room for one
wide_total : (l : List Pair) → wide_from * wide_pairs l ≤ total l
unfolding weigh wide_mask total
wide_total [] = omega arith
wide_total (p ∷ l) = go (leb wide_from (bits p)) refl (wide_total l)
  where
    go : (t : Bool) → leb wide_from (bits p) ≡ t → wide_from * wide_pairs l ≤ total l
        → wide_from * (elim t [ true ↦ 1 | false ↦ 0 ] + wide_pairs l) ≤ bits p + total l
    go true t r = omega (arith, leb-true wide_from (bits p) t)
    go false t r = omega arith

pub bits_bound : (n : ℕ) (ps : List Pair) (lanes : List Lane) → Packing n ps lanes → total ps ≤ 32 * n
bits_bound n ps lanes p =
    let most = packing_weighs (λ q. bits q) bits_plain 32 (λ l h. omega (arith, weigh_bits l)) n ps lanes p in
    omega (arith, weigh_bits ps)

pub wide_bound : (n : ℕ) (ps : List Pair) (lanes : List Lane) → Packing n ps lanes → wide_pairs ps ≤ n
wide_bound n ps lanes p =
    let most = packing_weighs (λ q. wide_mask q.mask) wide_plain 1 (λ l h. omega (arith, wide_total l)) n ps lanes p in
    omega arith

-- the two facts
pub too_many_bits : TooManyBits
too_many_bits n ps lanes h p = absurd (omega (arith, bits_bound n ps lanes p))

pub too_many_wide : TooManyWide
too_many_wide n ps lanes h p = absurd (omega (arith, wide_bound n ps lanes p))

-- Nothing is lost: a set that some size places is refused neither by 21 nor by 22.
pub no_loss : (n : ℕ) (ps : List Pair) (k : ℕ) (lanes : List Lane) → 0 < n → 0 < k → try n ps k ≡ all lanes → (total ps ≤ 32 * n) × (wide_pairs ps ≤ n)
no_loss n ps k lanes h l e =
    let p = try_packing n ps k lanes h l e in
    (bits_bound n ps lanes p, wide_bound n ps lanes p)
