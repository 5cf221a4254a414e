-- The numbers are those of the answer, and each slice is left as the function behind says.
-- Assumes nothing.
use mathlib.Core.Path.{refl, ap, ◌∙◌}
use lib.ListN.{length}
use Rattle.plan_record.specs.Record.{plan_lanes}
use Rattle.flatten.specs.Flatten.{building}
use Rattle.capi.specs.Exported.{after_build}
use Rattle.capi.specs.Numbers.{flattened_numbers}
use Rattle.capi.proofs.ToldLaws.{also, flattened_told}
use Rattle.capi.proofs.juolgesot_build.Goals as goal

pub returns : goal.returns
unfolding after_build
returns c =
    let o = building (plan_lanes c.args.plan.now) c.args.plan.now (length c.args.room.now) (length c.args.starts.now) (length c.args.words.now) (length c.args.pieces.now) in
    let numbers = c.tell_sizes.ensures ∙ (ap flattened_numbers c.build_flattened_script_v1.ensures.value ∙ flattened_told o) in
    also numbers (also c.build_flattened_script_v1.ensures.room_after (also c.build_flattened_script_v1.ensures.starts_after (also c.build_flattened_script_v1.ensures.words_after (also c.build_flattened_script_v1.ensures.pieces_after refl))))
