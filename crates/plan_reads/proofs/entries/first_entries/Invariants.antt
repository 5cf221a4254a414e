-- `plan_reads::entries::first_entries` meets its contract. The loop's invariant: the first i entries are right, and below the slots.
-- Assumes nothing.
use mathlib.Core.Path.{◌≡◌}
use Prim.Native.Nat.{ℕ, ◌<◌}
use lib.ListN.{length, get_or}
use Rattle.plan_record.specs.Record.{plan_lanes, slots_of}
use Rattle.plan_reads.specs.Entries.{first_entry}
use Rattle.plan_reads.proofs.entries.first_entries.Given as goal

abbrev pub invariant-loop-i : goal.invariant-loop-i
invariant-loop-i l =
    (length l.entries ≡ slots_of l.part.d.now) × ((k : ℕ) → k < l.i → (get_or l.entries k 0 ≡ first_entry (plan_lanes l.part.d.now) l.part.d.now l.part.p k) × (first_entry (plan_lanes l.part.d.now) l.part.d.now l.part.p k < slots_of l.part.d.now))
