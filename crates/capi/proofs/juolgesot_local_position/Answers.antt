-- The numbers are those of the answer, and the room is left as the function behind says.
-- Assumes nothing.
use mathlib.Core.Path.{refl, ap, ◌∙◌}
use lib.ListN.{length}
use Rattle.locals.specs.LocalAnswer.{local_answer}
use Rattle.capi.specs.Exported.{after_local_position}
use Rattle.capi.specs.Numbers.{brought_numbers}
use Rattle.capi.proofs.ToldLaws.{also, brought_told}
use Rattle.capi.proofs.juolgesot_local_position.Goals as goal

pub returns : goal.returns
unfolding after_local_position
returns c =
    let o = local_answer c.args.edition c.args.set.now (length c.args.room.now) c.args.word c.args.bit in
    let numbers = c.tell_position.ensures ∙ (ap brought_numbers c.local_position.ensures.value ∙ brought_told o) in
    also numbers (also c.local_position.ensures.room_after refl)
