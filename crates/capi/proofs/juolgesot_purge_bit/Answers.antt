-- The numbers are those of the answer, and each slice is left as the function behind says.
-- Assumes nothing.
use mathlib.Core.Path.{refl, ap, ◌∙◌}
use lib.ListN.{length}
use Rattle.repair_nodes.specs.RepairAnswer.{cleared, Repair}
use Rattle.capi.specs.Exported.{after_purge_bit}
use Rattle.capi.specs.Numbers.{one_number}
use Rattle.capi.proofs.ToldLaws.{also, one_told}
use Rattle.capi.proofs.juolgesot_purge_bit.Goals as goal

pub returns : goal.returns
unfolding after_purge_bit
returns c =
    let o = cleared c.args.edition c.args.counts.now c.args.slots.now (length c.args.after.now) (length c.args.room.now) c.args.level c.args.slot in
    let numbers = c.tell_length.ensures ∙ (ap one_number c.purge_bit.ensures.value ∙ one_told (λ (x : Repair). length x.counts) o) in
    also numbers (also c.purge_bit.ensures.slots_after (also c.purge_bit.ensures.after_after (also c.purge_bit.ensures.room_after refl)))
