-- One captured word: document 01, "A write-out location w captures positions 32w..32w+31".
-- Assumes nothing.
use Rattle.std.specs.Prelude.{true, false, List, ℕ, ◌/◌, ◌%◌, eqb, get_or}
use Rattle.run_machine.specs.Part.{location_in}

-- captured word l after stage k, of the positions in row and the captured words caps
unfoldable pub captured_word : ℕ → List ℕ → ℕ → ℕ → List ℕ → List ℕ → ℕ → ℕ
captured_word n W o k row caps l = elim (eqb (location_in n W o l / 256) k) [ true ↦ get_or row (location_in n W o l % 256) 0 | false ↦ get_or caps l 0 ]
