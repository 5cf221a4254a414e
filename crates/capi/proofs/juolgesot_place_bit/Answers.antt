-- The numbers are those of the answer, and each slice is left as the function behind says.
-- Assumes nothing.
use mathlib.Core.Path.{refl, ap, ◌∙◌}
use lib.ListN.{length}
use Rattle.repair_nodes.specs.RepairAnswer.{placed, Repair}
use Rattle.capi.specs.Exported.{after_place_bit}
use Rattle.capi.specs.Numbers.{one_number}
use Rattle.capi.proofs.ToldLaws.{also, one_told}
use Rattle.capi.proofs.juolgesot_place_bit.Goals as goal

pub returns : goal.returns
unfolding after_place_bit
returns c =
    let o = placed c.args.edition c.args.gates.now c.args.levels.now c.args.counts.now c.args.slots.now (length c.args.after.now) (length c.args.room.now) c.args.level c.args.slot c.args.node in
    let numbers = c.tell_length.ensures ∙ (ap one_number c.place_bit-answer.ensures.value ∙ one_told (λ (x : Repair). length x.counts) o) in
    also numbers (also c.place_bit-answer.ensures.slots_after (also c.place_bit-answer.ensures.after_after (also c.place_bit-answer.ensures.room_after refl)))
