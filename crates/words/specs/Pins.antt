-- Pins, inverted pin numbers and the empty pin: document 01, "Numbers".
-- Assumes nothing.
use Rattle.std.specs.Prelude.{Bool, ℕ, ◌+◌, ◌^◌, leb}

-- "A pin is 0..=2^30; an inverted pin number is 2·pin plus 0 or 1. The empty pin is 0xFFFFFFFF."
abbrev pub is_pin : ℕ → Bool
is_pin x = leb x (2 ^ 30)

abbrev pub is_pin_iv : ℕ → Bool
is_pin_iv x = leb x (2 ^ 31 + 1)

abbrev pub empty : ℕ
empty = 4294967295
