-- Places in a round.
-- Assumes nothing.
use Rattle.std.specs.Prelude.{true, false, ℕ, ◌+◌, eqb}

-- the next of n places round
abbrev pub next : ℕ → ℕ → ℕ
next n i = elim (eqb (i + 1) n) [ true ↦ 0 | false ↦ i + 1 ]
