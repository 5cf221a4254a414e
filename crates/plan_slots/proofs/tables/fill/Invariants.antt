-- The table holds the entries of the first i slots, whatever gives their pins and answers as the code does.
-- Assumes nothing.
use Rattle.std.proofs.Common.{◌≡◌, ℕ, ◌+◌, ◌<◌, length}
use Rattle.plan_record.specs.Record.{slot_at}
use Rattle.plan_slots.specs.Puts.{held_below, filled}
use Rattle.plan_slots.proofs.tables.fill.Given as goal

abbrev pub invariant-loop-i : goal.invariant-loop-i
invariant-loop-i g l =
    (length l.table ≡ length l.initial.table)
    × ((pin v : ℕ → ℕ) → ((i : ℕ) → i < l.n → slot_at l.part.d.now l.part.p l.s (l.first + i) ≡ pin i)
    → ((i : ℕ) → i < l.n → (x : ℕ) → goal.F-post g l.value i x → x ≡ v i) → l.table ≡ filled (length l.table) (held_below pin v l.i))
