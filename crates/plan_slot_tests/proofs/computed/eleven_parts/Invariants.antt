-- `plan_slot_tests::computed::eleven_parts` meets its contract. The loop's invariant: the lowest place from part p on is the plan's.
-- Assumes nothing.
use mathlib.Core.Path.{◌≡◌}
use Prim.Native.Nat.{◌-◌}
use lib.ListN.{length}
use Rattle.plan_record.specs.Record.{body_at}
use Rattle.words.specs.Tests.{lowest_from}
use Rattle.plan_slots.specs.Slots.{eleven_right, bad_item, refusal11}
use Rattle.plan_slot_tests.proofs.computed.eleven_parts.Given as goal

abbrev pub invariant-loop-p : goal.invariant-loop-p
invariant-loop-p l =
    (l.at ≡ body_at l.d l.p) × (length l.room ≡ length l.initial.room) × (lowest_from (λ q. bad_item l.d (eleven_right l.d q) q) (l.p-end - l.p) l.p ≡ refusal11 l.d)
