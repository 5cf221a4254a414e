-- The two editions: what holds of both numbers of lanes, and products with a number of lanes. `omega` takes a product n * s for one unknown; the
-- order fact that it lacks is `runs-in`.
-- Assumes nothing.
use mathlib.Core.Path.{◌≡◌, refl, sym, subst}
use mathlib.Core.Bool.{true}
use mathlib.Core.Logic.{inl, inr, ⊎_elim}
use Prim.Native.Nat.{ℕ, ◌+◌, ◌*◌, ◌^◌, ◌≤◌, ◌<◌}
use native.Mathlib.Nat.{mul-le-mul_left}
use native.Mathlib.Omega.{arith}
use borrow.Author.Tests.{eqb-true}
use lib.Dec.{eqb}
use Rattle.words.specs.Edition.{Known, known, levels_for, lanes_for}
use Rattle.words.proofs.TestLaws.{or_cases}

-- a fact of both numbers is one of each edition
pub by_edition : (P : ℕ → Type 0) → P 256 → P 128 → (n : ℕ) → Known n → P n
by_edition P full small n (inl e) = subst P (sym e) full
by_edition P full small n (inr e) = subst P (sym e) small

pub known_least : (n : ℕ) → Known n → 128 ≤ n
known_least = by_edition (λ n. 128 ≤ n) (omega arith) (omega arith)

pub known_most : (n : ℕ) → Known n → n ≤ 256
known_most = by_edition (λ n. n ≤ 256) (omega arith) (omega arith)

-- the slots are a power of two
pub slots_power : (n : ℕ) → Known n → 32 * n ≡ 2 ^ levels_for n
unfolding levels_for
slots_power = by_edition (λ n. 32 * n ≡ 2 ^ levels_for n) refl refl

pub levels_most : (n : ℕ) → Known n → levels_for n ≤ 13
unfolding levels_for
levels_most = by_edition (λ n. levels_for n ≤ 13) (omega arith) (omega arith)

-- an edition's number names itself
pub lanes_named : (x : ℕ) → Known x → x ≡ lanes_for x
unfolding lanes_for known
lanes_named = by_edition (λ x. x ≡ lanes_for x) refl refl

-- the test of 29 and what it says
pub known_number : (x : ℕ) → known x ≡ true → Known x
unfolding known
known_number x h = ⊎_elim (λ e. inl (eqb-true x 256 e)) (λ e. inr (eqb-true x 128 e)) (or_cases (eqb x 256) (eqb x 128) h)

pub known_passes : (x : ℕ) → Known x → known x ≡ true
unfolding known
known_passes = by_edition (λ x. known x ≡ true) refl refl

-- s whole runs of k words, and one more, are inside m of them
pub runs_in : (k s m : ℕ) → s < m → k * s + k ≤ k * m
runs_in k s m h = let l : s + 1 ≤ m = omega arith in omega (arith, mul-le-mul_left {m = s + 1} {n = m} k l)
