-- The numbers are those of the answer, and each slice is left as the function behind says.
-- Assumes nothing.
use mathlib.Core.Path.{refl, ap, ◌∙◌}
use lib.ListN.{length}
use Rattle.listing.specs.Listing.{listed}
use Rattle.capi.specs.Exported.{after_list}
use Rattle.capi.specs.Numbers.{one_number}
use Rattle.capi.proofs.ToldLaws.{also, one_told}
use Rattle.capi.proofs.juolgesot_list.Goals as goal

pub returns : goal.returns
unfolding after_list
returns c =
    let o = listed c.args.edition c.args.records.now (length c.args.out.now) (length c.args.room.now) in
    let numbers = c.tell_length.ensures ∙ (ap one_number c.list.ensures.value ∙ one_told length o) in
    also numbers (also c.list.ensures.room_after (also c.list.ensures.out_after refl))
