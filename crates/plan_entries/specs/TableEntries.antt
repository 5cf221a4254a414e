-- The entries of the two slot tables of a part, and refusal 13: document 01, the table of refusals.
-- Assumes nothing.
use Rattle.std.specs.Prelude.{Bool, true, false, List, ℕ, ◌+◌, ◌*◌, ltb}
use Rattle.std.proofs.Math.Option.{Option}
use Rattle.plan_record.specs.Record.{plan_lanes, slots_of, parts_of, table_at}
use Rattle.words.specs.Tests.{first_not, lowest, Place}

-- 13: "slot table entry above 8191"; "table entry for 13, enables from 8192": after the SRAM entries stand two lists of a word a lane, then the
-- enable entries
unfoldable pub thirteen_right : List ℕ → ℕ → ℕ → Bool
thirteen_right d p i = ltb (table_at d p (elim (ltb i (slots_of d)) [ true ↦ i | false ↦ i + 2 * plan_lanes d ])) (slots_of d)

-- the lowest entry of part p that is refused, and the lowest part that has one
abbrev pub bad_entry : List ℕ → ℕ → Option ℕ
bad_entry d p = first_not (thirteen_right d p) (2 * slots_of d)

unfoldable pub refusal13 : List ℕ → Option Place
refusal13 d = lowest (bad_entry d) (parts_of d)
