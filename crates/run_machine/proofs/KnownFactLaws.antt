-- That a number of lanes names an edition has one proof at most, so that a struct can carry it.
-- Assumes nothing.
use mathlib.Core.Path.{ap}
use mathlib.Core.Logic.{inl, inr}
use Prim.Native.Nat.{ℕ}
use native.Mathlib.Nat.{ℕ_set}
use native.Mathlib.Omega.{arith}
use Rattle.std.proofs.Props.{props}
use Rattle.words.specs.Edition.{Known}

pub known_prop : (n : ℕ) → IsProp (Known n)
known_prop n (inl p) (inl q) = ap inl (ℕ_set n 256 p q)
known_prop n (inl p) (inr q) = absurd (omega arith)
known_prop n (inr p) (inl q) = absurd (omega arith)
known_prop n (inr p) (inr q) = ap inr (ℕ_set n 128 p q)

pub ruleset known_props = (known_prop, props)
