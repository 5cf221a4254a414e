-- `plan_checks::lists::check_totals` meets its contract.
-- Assumes nothing.
use Rattle.plan_refusals.specs.RefusalGroups.{total_refusal}
use Rattle.plan_checks.proofs.VerdictLaws.{unless_told}
use Rattle.plan_checks.proofs.lists.check_totals.Goals as goal

pub returns : goal.returns
unfolding total_refusal
returns c =
    record { value = unless_told 8 _ _ _ c.allot.ensures.value (rw c.number.ensures at c.of_test.ensures); room_after = c.allot.ensures.room_after }
