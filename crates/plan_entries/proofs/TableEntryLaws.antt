-- The entries of the two tables: which word an entry is, and that a plan that passes 13 has each below the number of slots.
-- Assumes nothing.
use mathlib.Core.Path.{◌≡◌, sym, ap, ◌∙◌}
use mathlib.Core.Bool.{true}
use mathlib.Core.Option.{none}
use mathlib.Core.List.{List}
use Prim.Native.Nat.{ℕ, ◌+◌, ◌*◌, ◌≤◌, ◌<◌}
use native.Mathlib.Omega.{arith}
use borrow.Author.Tests.{lt-ltb, le-ltb, ltb-true}
use lib.Dec.{ltb}
use Rattle.plan_record.specs.Record.{plan_lanes, slots_of, parts_of, table_at}
use Rattle.words.proofs.TestLaws.{lowest_none, not_none}
use Rattle.plan_entries.specs.TableEntries.{thirteen_right, refusal13}

pub entry_low : (d : List ℕ) (p i : ℕ) → i < slots_of d → ltb (table_at d p i) (slots_of d) ≡ thirteen_right d p i
unfolding thirteen_right
entry_low d p i h = rw (lt-ltb i (slots_of d) h, thirteen_right)

pub entry_high : (d : List ℕ) (p i : ℕ) → slots_of d ≤ i → ltb (table_at d p (i + 2 * plan_lanes d)) (slots_of d) ≡ thirteen_right d p i
unfolding thirteen_right
entry_high d p i h = rw (le-ltb i (slots_of d) h, thirteen_right)

-- ---- a plan that passes

thirteen_at : (d : List ℕ) → refusal13 d ≡ none → (p i : ℕ) → p < parts_of d → i < 2 * slots_of d → thirteen_right d p i ≡ true
unfolding refusal13
thirteen_at d h p i l u = not_none (thirteen_right d p) (2 * slots_of d) (lowest_none _ (parts_of d) h p l) i u

pub sram_entry : (d : List ℕ) → refusal13 d ≡ none → (p i : ℕ) → p < parts_of d → i < slots_of d → table_at d p i < slots_of d
sram_entry d h p i l u = ltb-true (table_at d p i) (slots_of d) (entry_low d p i u ∙ thirteen_at d h p i l (omega arith))

pub enable_entry_lem : (d : List ℕ) → refusal13 d ≡ none → (p i : ℕ) → p < parts_of d → i < slots_of d → table_at d p (34 * plan_lanes d + i) < slots_of d
enable_entry_lem d h p i l u =
    let e : slots_of d + i + 2 * plan_lanes d ≡ 34 * plan_lanes d + i = omega arith in
    let passed = entry_high d p (slots_of d + i) (omega arith) ∙ thirteen_at d h p (slots_of d + i) l (omega arith) in
    ltb-true (table_at d p (34 * plan_lanes d + i)) (slots_of d) (ap (λ (k : ℕ). ltb (table_at d p k) (slots_of d)) (sym e) ∙ passed)
