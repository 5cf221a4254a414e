-- A half of a word as the code takes it.
-- Assumes nothing.
use mathlib.Core.Path.{◌≡◌}
use Prim.Native.Nat.{ℕ, ◌/◌, ◌^◌}
use lib.Bits.{bit_and, and_mask}
use Rattle.words.specs.Section.{half_of}

pub half_low : (x e : ℕ) → e ≡ 0 → bit_and x 0xffff ≡ half_of x e
unfolding half_of
half_low x e h = rw h (and_mask x 16)

pub half_high : (x e : ℕ) → e ≡ 1 → x / 2 ^ 16 ≡ half_of x e
unfolding half_of
half_high x e h = rw h
