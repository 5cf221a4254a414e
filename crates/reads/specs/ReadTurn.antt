-- The word that the read turn leaves in a lane: document 01, "The run", and what the Rust says of a read round: "stored like pext instruction, but
-- reversed, and then appended to the low bits in each round". "Unused lane bits are 0."
-- Assumes nothing.
use Rattle.std.specs.Prelude.{true, false, ℕ, zero, suc, ◌+◌, ◌*◌, ◌/◌, ◌%◌, eqb}

-- the lowest bit of w at the low end of a, if the mask m has its lowest bit
abbrev pub append_bit : ℕ → ℕ → ℕ → ℕ
append_bit w m a = elim (eqb (m % 2) 1) [ true ↦ a * 2 + w % 2 | false ↦ a ]

-- the bits of the state word w that the mask m takes, lowest first, each at the low end of a: d bits are looked at
unfoldable pub appended : ℕ → ℕ → ℕ → ℕ → ℕ
appended zero w m a = a
appended (suc d) w m a = appended d (w / 2) (m / 2) (append_bit w m a)

-- a lane's word after R rounds: W r is the state word that round r reads, M r its mask
unfoldable pub lane_word : (ℕ → ℕ) → (ℕ → ℕ) → ℕ → ℕ
lane_word W M zero = 0
lane_word W M (suc r) = appended 32 (W r) (M r) (lane_word W M r)
