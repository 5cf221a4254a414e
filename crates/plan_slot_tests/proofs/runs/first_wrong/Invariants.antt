-- Whatever answers as the two tests do has the same answer from item j on as from item x on.
-- Assumes nothing.
use Rattle.std.proofs.Common.{◌≡◌, ℕ, Bool, true, ◌+◌, ◌*◌, ◌-◌, ◌≤◌, ◌<◌}
use Rattle.words.specs.Tests.{first_from}
use Rattle.plan_slots.specs.Slots.{over_items}
use Rattle.plan_slot_tests.specs.EmptyRuns.{EightPass}
use Rattle.plan_slot_tests.proofs.runs.first_wrong.Given as goal

abbrev pub invariant-loop-j : goal.invariant-loop-j
invariant-loop-j g l =
    (l.x ≤ l.j)
    × (l.j ≤ l.slots + 7)
    × ((f : ℕ → ℕ → Bool) (e : ℕ → Bool) → ((j : ℕ) → l.x ≤ j → j < l.slots → (b : Bool) → goal.R-post g l.right j b → b ≡ f l.s j)
    → ((j : ℕ) → l.x ≤ j → j < l.slots → (b : Bool) → goal.E-post g l.empty j b → b ≡ e j) → ((j : ℕ) → l.x ≤ j → e j ≡ true → EightPass f l.s j)
    → (l.j ≤ l.slots) × (first_from (over_items l.body.lanes f) (l.slots - l.j) (l.slots * l.s + l.j) ≡ first_from (over_items l.body.lanes f) (l.slots - l.x) (l.slots * l.s + l.x)))

abbrev pub decreases-loop-j : goal.decreases-loop-j
decreases-loop-j g l = l.slots - l.j
