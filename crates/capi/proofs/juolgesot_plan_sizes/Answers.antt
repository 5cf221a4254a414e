-- The numbers are those of the answer, and each slice is left as the function behind says.
-- Assumes nothing.
use mathlib.Core.Path.{refl, ap, ◌∙◌}
use lib.ListN.{length}
use Rattle.plan_record.specs.Record.{plan_lanes}
use Rattle.flatten.specs.Flatten.{sizing}
use Rattle.capi.specs.Exported.{after_plan_sizes}
use Rattle.capi.specs.Numbers.{flattened_numbers}
use Rattle.capi.proofs.ToldLaws.{also, flattened_told}
use Rattle.capi.proofs.juolgesot_plan_sizes.Goals as goal

pub returns : goal.returns
unfolding after_plan_sizes
returns c =
    let o = sizing (plan_lanes c.args.plan.now) c.args.plan.now (length c.args.room.now) in
    let numbers = c.tell_sizes.ensures ∙ (ap flattened_numbers c.plan_sizes.ensures.value ∙ flattened_told o) in
    also numbers (also c.plan_sizes.ensures.room_after refl)
