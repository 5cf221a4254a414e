-- `plan_slot_tests::standing::refusal9` meets its contract. The loop's invariant: the lowest place from part p on is the plan's.
-- Assumes nothing.
use mathlib.Core.Path.{◌≡◌}
use Prim.Native.Nat.{◌-◌}
use Rattle.plan_record.specs.Record.{body_at}
use Rattle.words.specs.Tests.{lowest_from}
use Rattle.plan_slots.specs.Slots.{nine_right, bad_item, refusal9}
use Rattle.plan_slot_tests.proofs.standing.refusal9.Given as goal

abbrev pub invariant-loop-p : goal.invariant-loop-p
invariant-loop-p l =
    (l.at ≡ body_at l.d l.p) × (lowest_from (λ q. bad_item l.d (nine_right l.d q) q) (l.p-end - l.p) l.p ≡ refusal9 l.d)
