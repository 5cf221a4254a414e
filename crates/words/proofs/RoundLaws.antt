-- The next place round: behind the last one comes the first.
-- Assumes nothing.
use mathlib.Core.Path.{◌≡◌, refl}
use mathlib.Core.Bool.{Bool, true, false}
use Prim.Native.Nat.{ℕ, ◌+◌, ◌<◌}
use native.Mathlib.Omega.{arith}
use borrow.Author.Tests.{eqb-false, eq-eqb, ne_eqb}
use lib.Dec.{eqb}
use Rattle.words.specs.Round.{next}

pub next_wrap : (n i : ℕ) → i + 1 ≡ n → next n i ≡ 0
next_wrap n i h = rw (eq-eqb (i + 1) n h, next)

pub next_step : (n i : ℕ) → (i + 1 ≡ n → ⊥) → next n i ≡ i + 1
next_step n i h = rw (ne_eqb (i + 1) n h, next)

pub next_lt : (n i : ℕ) → i < n → next n i < n
next_lt n i h = go (eqb (i + 1) n) refl
  where
    go : (t : Bool) → eqb (i + 1) n ≡ t → next n i < n
    go true e = rw (e, next) (omega arith)
    go false e = rw (e, next) (omega (arith, eqb-false (i + 1) n e))
