-- Clearing a place: document 02, 7/13, and `purge_bit` of src/pe.rs. Clearing stops at an empty slot.
-- Assumes nothing.
use Rattle.std.specs.Prelude.{true, false, List, [], ◌∷◌, ◌++◌, ℕ, zero, suc, ◌+◌, ◌*◌, eqb}
use Rattle.words.specs.Pins.{empty}
use Rattle.repair_nodes.specs.Stage.{Spot, spot, slot_in}

-- the slots that clearing reaches from index q of level h, which has m slots, and their nodes, in the order in which the Rust empties them
unfoldable pub clearing : List ℕ → ℕ → ℕ → ℕ → List Spot
clearing s zero m q = elim (eqb (slot_in s q) empty) [ true ↦ [] | false ↦ spot q (slot_in s q) ∷ [] ]
clearing s (suc h) m q =
    elim (eqb (slot_in s q) empty) [
      | true ↦ []
      | false ↦ spot q (slot_in s q) ∷ (clearing s h (2 * m) (q + m) ++ clearing s h (2 * m) (q + 2 * m))
    ]
