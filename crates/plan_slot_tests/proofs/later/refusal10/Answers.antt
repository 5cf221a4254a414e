-- `plan_slot_tests::later::refusal10` meets its contract. The room is cleared once, after the last part.
-- Assumes nothing.
use mathlib.Core.Path.{ap, ◌∙◌}
use Prim.Native.Nat.{ℕ}
use lib.ListN.{replicate}
use Rattle.plan_slot_tests.proofs.later.refusal10.Goals as goal

pub returns : goal.returns
returns c =
    record { value = c.ten_parts-fault.ensures; room_after = c.clear.ensures ∙ ap (λ (n : ℕ). replicate n 0) c.ten_parts-fault.auto.room }
