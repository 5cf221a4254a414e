-- The largest power of two not above a position: it is 2^j just where 2^j ≤ q < 2^(j+1), so that slots a and b are inside the stage.
-- Assumes nothing.
use mathlib.Core.Path.{◌≡◌, sym, ap, ◌∙◌}
use mathlib.Core.Logic.{⊎_elim}
use Prim.Native.Nat.{ℕ, zero, suc, ◌+◌, ◌*◌, ◌-◌, ◌%◌, ◌^◌, ◌≤◌, ◌<◌}
use native.Mathlib.Nat.{not-suc-le-zero}
use native.Mathlib.Omega.{arith}
use borrow.Author.Tests.{le-leb, lt-leb}
use lib.Count.{count_leading_zeros, leading_top}
use lib.Pow.{pow_mono}
use Rattle.words.proofs.BitLaws.{lt_or_ge}
use Rattle.words.specs.Edition.{Known, levels_for}
use Rattle.words.proofs.EditionLaws.{slots_power}
use Rattle.plan_slots.specs.Slots.{top_below, top, TopOf}

-- 2^j is the top power of q
pub record TopAt (q j : ℕ) : Type 0 where
  pub least : 2 ^ j ≤ q
  pub most : q < 2 * 2 ^ j

top_here : (n q : ℕ) → 2 ^ n ≤ q → top_below (suc n) q ≡ 2 ^ n
unfolding top_below
top_here n q h = rw (le-leb _ _ h, top_below)

top_under : (n q : ℕ) → q < 2 ^ n → top_below (suc n) q ≡ top_below n q
unfolding top_below
top_under n q h = rw (lt-leb _ _ h, top_below)

pub top_is : (n q j : ℕ) → j < n → TopAt q j → top_below n q ≡ 2 ^ j
top_is zero q j l t = absurd (not-suc-le-zero l)
top_is (suc n) q j l t =
    ⊎_elim
    (λ k. let m : 2 ^ suc j ≤ 2 ^ n = pow_mono k in top_under n q (omega arith) ∙ top_is n q j k t)
    (λ k. let e : n ≡ j = omega arith in rw e (top_here j q t.least))
    (lt_or_ge j n)

pub top_at : (n q : ℕ) → 0 < q → q < 2 ^ n → (j : ℕ) × (j < n) × TopAt q j
top_at zero q h l = absurd (omega arith)
top_at (suc n) q h l =
    ⊎_elim
    (λ k. let (j, i, t) = top_at n q h k in (j, omega arith, t))
    (λ k. (n, omega arith, record { least = k; most = omega arith }))
    (lt_or_ge q (2 ^ n))

-- slots a and b of a position: above it, and inside the stage
pub record Below (q : ℕ) : Type 0 where
  pub some : 0 < top q
  pub least : top q ≤ q
  pub most : q < 2 * top q
  pub inside : (n : ℕ) → Known n → q < 32 * n → q + 2 * top q < 64 * n

-- 2^j below 2^k is at most half of it
half_power : (j k : ℕ) → 2 ^ j < 2 ^ k → 2 * 2 ^ j ≤ 2 ^ k
half_power j k h = ⊎_elim (λ l. let m : 2 ^ suc j ≤ 2 ^ k = pow_mono l in omega arith) (λ l. let m : 2 ^ k ≤ 2 ^ j = pow_mono l in absurd (omega arith)) (lt_or_ge j k)

pub top_below_lem : (q : ℕ) → 0 < q → q < 8192 → Below q
top_below_lem q h l =
    let (j, i, t) = top_at 13 q h l in
    let e : top q ≡ 2 ^ j = top_is 13 q j i t in
    record {
      some = omega (arith, t.least, t.most);
      least = omega (arith, t.least);
      most = omega (arith, t.most);
      inside = λ n known l.
          let a : 2 ^ j < 2 ^ levels_for n = omega (arith, slots_power n known, t.least) in
          omega (arith, half_power j (levels_for n) a, slots_power n known);
    }

-- the code counts the zeros above it
pub power_is : (q : ℕ) → 0 < q → q < 8192 → (count_leading_zeros 64 q ≤ 63) × (2 ^ (63 - count_leading_zeros 64 q) ≡ top q)
power_is q h l =
    let (j, k, low, high) = leading_top 64 q h (omega arith) in
    let t : TopAt q j = record { least = low; most = omega (arith, high) } in
    let i : j < 13 = ⊎_elim (λ x. x) (λ x. let m : 2 ^ 13 ≤ 2 ^ j = pow_mono x in absurd (omega arith)) (lt_or_ge j 13) in
    let w : 63 - count_leading_zeros 64 q ≡ j = omega (arith, k) in
    (omega (arith, k), ap (λ (x : ℕ). 2 ^ x) w ∙ sym (top_is 13 q j i t))

pub power_shifted : (q : ℕ) → 0 < q → q < 8192 → TopOf q (1 * 2 ^ (63 - count_leading_zeros 64 q) % 2 ^ 64)
power_shifted q h l =
    let e : 2 ^ (63 - count_leading_zeros 64 q) ≡ top q = (power_is q h l).1 in
    let m : Below q = top_below_lem q h l in
    let r : 1 * 2 ^ (63 - count_leading_zeros 64 q) % 2 ^ 64 ≡ top q = rw e (omega arith) in
    record { is = r; some = omega (arith, m.some); inside = λ n known k. omega (arith, m.inside n known k) }
