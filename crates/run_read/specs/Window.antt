-- The one-word window: "comes from the old state or the new, by bit 31".
-- Assumes nothing.
use Rattle.std.specs.Prelude.{true, false, List, ℕ, ◌-◌, ◌%◌, ◌^◌, ◌<◌, ltb, length, take, drop}

-- a one-element part of a state
unfoldable pub window_of : List ℕ → List ℕ → ℕ → List ℕ
window_of old new w = elim (ltb w (2 ^ 31)) [ true ↦ take 1 (drop w old) | false ↦ take 1 (drop (w - 2 ^ 31) new) ]

-- the word that w names is in both states
abbrev pub WordReadable : List ℕ → List ℕ → ℕ → Type 0
WordReadable old new w = (w % 2 ^ 31 < length old) × (w % 2 ^ 31 < length new)
