-- The lowest place from this part on is that of the plan; each part leaves the room as it was.
-- Assumes nothing.
use mathlib.Core.Path.{◌≡◌}
use Prim.Native.Nat.{◌-◌}
use lib.ListN.{length}
use Rattle.plan_record.specs.Record.{parts_of, body_at}
use Rattle.words.specs.Tests.{lowest_from}
use Rattle.plan_positions.specs.Places.{bad_slot}
use Rattle.plan_positions.specs.Positions as positions
use Rattle.plan_positions.proofs.planned.refusal12.Given as goal

abbrev pub invariant-loop-p : goal.invariant-loop-p
invariant-loop-p l =
    (l.at ≡ body_at l.d l.p) × (l.room ≡ l.initial.room) × (lowest_from (bad_slot l.d) (parts_of l.d - l.p) l.p ≡ positions.refusal12 l.d) × (length l.keys ≡ length l.initial.keys)
