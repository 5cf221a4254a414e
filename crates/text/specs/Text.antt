-- Numbers as text, in ASCII: document 01, "Listing program", and the numbers of a binary AIGER header.
-- Assumes nothing.
use Rattle.std.specs.Prelude.{true, false, List, [], ◌∷◌, ◌++◌, ℕ, zero, suc, ◌+◌, ◌/◌, ◌%◌, ltb}

-- decimal digits, the most significant first, no more than f of them
unfoldable pub decimal_in : ℕ → ℕ → List ℕ
decimal_in zero n = []
decimal_in (suc f) n = elim (ltb n 10) [ true ↦ (48 + n) ∷ [] | false ↦ decimal_in f (n / 10) ++ ((48 + n % 10) ∷ []) ]

-- twenty hold every 64-bit number
abbrev pub decimal : ℕ → List ℕ
decimal n = decimal_in 20 n

-- a number and a blank
abbrev pub field : ℕ → List ℕ
field n = decimal n ++ (32 ∷ [])
