-- How many bits are set: the count by fuel is the machine's count, and a count of a mask cut at a bit is the sum of the parts'.
-- Assumes nothing.
use mathlib.Core.Path.{◌≡◌, refl, sym, ap, ◌∙◌}
use Prim.Native.Nat.{ℕ, zero, suc, ◌+◌, ◌/◌, ◌%◌, ◌^◌, ◌≤◌, ◌<◌}
use native.Mathlib.Nat.{mod-lt, mod-le}
use native.Mathlib.Omega.{arith}
use lib.Count.{ones, ones_step, ones_cat}
use lib.Pow.{pow_pos, shr_le, shr-shr, split}
use Rattle.words.specs.Bit.{bit, pop_in, pop}

-- ---- the machine's count

pub pop_in-ones : (d w : ℕ) → w < 2 ^ d → pop_in d w ≡ ones w
unfolding pop_in ones
pop_in-ones zero w h =
    let e : w ≡ 0 = omega arith in
    rw e
pop_in-ones (suc d) w h = ap (λ (x : ℕ). w % 2 + x) (pop_in-ones d (w / 2) (omega arith)) ∙ sym (ones_step w)

pub pop_ones : (w : ℕ) → w < 2 ^ 32 → pop w ≡ ones w
pop_ones w h = pop_in-ones 32 w h

-- ---- the count as a sum of bits

pub pop_in-le : (d w : ℕ) → pop_in d w ≤ d
unfolding pop_in
pop_in-le zero w = omega arith
pop_in-le (suc d) w = omega (arith, pop_in-le d (w / 2))

pub pop_le : (w : ℕ) → pop w ≤ 32
pop_le w = pop_in-le 32 w

-- ---- none set, and some set

pub pop_in-none : (d w : ℕ) → w < 2 ^ d → pop_in d w ≡ 0 → w ≡ 0
unfolding pop_in
pop_in-none zero w h e = omega arith
pop_in-none (suc d) w h e = omega (arith, pop_in-none d (w / 2) (omega arith) (omega arith))

pub pop_none : (w : ℕ) → w < 2 ^ 32 → pop w ≡ 0 → w ≡ 0
pop_none w h e = pop_in-none 32 w h e

pub pop_some : (w : ℕ) → w < 2 ^ 32 → 0 < w → 0 < pop w
pop_some w h l = at (pop w) refl
  where
    at : (n : ℕ) → pop w ≡ n → 0 < n
    at zero e = absurd (omega (arith, pop_none w h e))
    at (suc n) e = omega arith

-- ---- a mask cut at bit k

pub pop_cut : (m k : ℕ) → m < 2 ^ 32 → pop m ≡ pop (m % 2 ^ k) + pop (m / 2 ^ k)
pop_cut m k h =
    let low : m % 2 ^ k < 2 ^ 32 = omega (arith, mod-le m (2 ^ k)) in
    let high : m / 2 ^ k < 2 ^ 32 = omega (arith, shr_le m k) in
    let parts : ones m ≡ ones (m / 2 ^ k) + ones (m % 2 ^ k) = ap ones (sym (split m k)) ∙ ones_cat k (m / 2 ^ k) (m % 2 ^ k) (mod-lt m (pow_pos k)) in
    omega (arith, pop_ones m h, pop_ones (m % 2 ^ k) low, pop_ones (m / 2 ^ k) high)

pub pop_above : (m k : ℕ) → m < 2 ^ 32 → pop (m / 2 ^ k) ≡ bit m k + pop (m / 2 ^ (k + 1))
unfolding bit
pop_above m k h =
    let high : m / 2 ^ k < 2 ^ 32 = omega (arith, shr_le m k) in
    let higher : m / 2 ^ (k + 1) < 2 ^ 32 = omega (arith, shr_le m (k + 1)) in
    pop_ones (m / 2 ^ k) high ∙ ones_step (m / 2 ^ k) ∙ ap (λ (x : ℕ). m / 2 ^ k % 2 + ones x) (shr-shr m k 1) ∙ ap (λ (x : ℕ). m / 2 ^ k % 2 + x) (sym (pop_ones (m / 2 ^ (k + 1)) higher))

-- above a set bit there are fewer than in all
pub pop_fewer : (m k : ℕ) → m < 2 ^ 32 → bit m k ≡ 1 → pop (m / 2 ^ (k + 1)) < pop m
pop_fewer m k h e = omega (arith, pop_cut m k h, pop_above m k h)
