-- Lines as text, in ASCII: document 01, "Listing program", the last sentence.
-- Assumes nothing.
use Rattle.std.specs.Prelude.{true, false, List, [], ◌∷◌, ◌++◌, ℕ, zero, suc, ◌+◌, ◌*◌, ◌/◌, ◌%◌, ◌^◌, ltb}
use Rattle.text.specs.Text.{field}

-- a lower-case hex digit: 0 to 9, then a to f
unfoldable pub hex_digit : ℕ → ℕ
hex_digit d = elim (ltb d 10) [ true ↦ 48 + d | false ↦ 87 + d ]

-- the k lowest hex digits of a number, the most significant first
unfoldable pub hex_in : ℕ → ℕ → List ℕ
hex_in zero n = []
hex_in (suc k) n = hex_digit (n / 2 ^ (4 * k) % 16) ∷ hex_in k n

-- "in eight lower-case hex digits"
abbrev pub hex : ℕ → List ℕ
hex n = hex_in 8 n

-- "kind": s for a staged word, which has bit 31 set, and n for one that is not
unfoldable pub kind_letter : ℕ → ℕ
kind_letter w = elim (ltb w (2 ^ 31)) [ true ↦ 110 | false ↦ 115 ]

-- "(lane, round, kind, word without flag, mask in eight lower-case hex digits"
unfoldable pub line : ℕ → ℕ → ℕ → ℕ → List ℕ
line i r w m = field i ++ (field r ++ ((kind_letter w ∷ 32 ∷ []) ++ (field (w % 2 ^ 31) ++ (hex m ++ (10 ∷ [])))))
