-- The numbers are those of the answer, and each slice is left as the function behind says.
-- Assumes nothing.
use mathlib.Core.Path.{refl, ap, ◌∙◌}
use lib.ListN.{length}
use Rattle.rounds.specs.RoundsAnswer.{rounds_answer}
use Rattle.capi.specs.Exported.{after_read_rounds}
use Rattle.capi.specs.Numbers.{rounds_numbers}
use Rattle.capi.proofs.ToldLaws.{also, rounds_told}
use Rattle.capi.proofs.juolgesot_read_rounds.Goals as goal

pub returns : goal.returns
unfolding after_read_rounds
returns c =
    let o = rounds_answer c.args.edition c.args.set.now (length c.args.out.now) (length c.args.room.now) in
    let numbers = c.tell_rounds.ensures ∙ (ap rounds_numbers c.map_global_read_to_rounds.ensures.value ∙ rounds_told o) in
    also numbers (also c.map_global_read_to_rounds.ensures.room_after (also c.map_global_read_to_rounds.ensures.out_after refl))
