-- The numbers are those of the answer, and each slice is left as the function behind says.
-- Assumes nothing.
use mathlib.Core.Path.{refl, ap, ◌∙◌}
use lib.ListN.{length}
use Rattle.values.specs.Values.{value_answer, Bits}
use Rattle.capi.specs.Exported.{after_value}
use Rattle.capi.specs.Numbers.{one_number}
use Rattle.capi.proofs.ToldLaws.{also, one_told}
use Rattle.capi.proofs.juolgesot_value.Goals as goal

pub returns : goal.returns
unfolding after_value
returns c =
    let o = value_answer c.args.plan.now c.args.part c.args.old.now c.args.new.now (length c.args.room.now) (length c.args.bits.now) c.args.pin in
    let numbers = c.tell_bit.ensures ∙ (ap one_number c.value.ensures.value ∙ one_told (λ (x : Bits). x.own) o) in
    also numbers (also c.value.ensures.room_after (also c.value.ensures.bits_after refl))
