-- Slots by eight.
-- Assumes nothing.
use Rattle.std.specs.Prelude.{◌≡◌, Bool, true, ◌&&◌, List, ℕ, ◌+◌, ◌%◌, ◌<◌, eqb}
use Rattle.plan_record.specs.Record.{slot_at}
use Rattle.words.specs.Pins.{empty}
use Rattle.words.specs.Tests.{all_below}

-- whether the slot k places above index q is empty, and whether eight slots from an eighth index on are
abbrev pub empty_from : List ℕ → ℕ → ℕ → ℕ → ℕ → Bool
empty_from d p s q k = eqb (slot_at d p s (q + k)) empty

unfoldable pub eighth_empty : List ℕ → ℕ → ℕ → ℕ → Bool
eighth_empty d p s q = eqb (q % 8) 0 && all_below (empty_from d p s q) 8

-- an eighth item, and a test that passes it and the seven after it
abbrev pub EightPass : (ℕ → ℕ → Bool) → ℕ → ℕ → Type 0
EightPass right s j = (j % 8 ≡ 0) × ((k : ℕ) → k < 8 → right s (j + k) ≡ true)
