-- The numbers are those of the answer, and each slice is left as the function behind says.
-- Assumes nothing.
use mathlib.Core.Path.{refl, ap, ◌∙◌}
use lib.ListN.{length}
use Rattle.joins_sets.specs.Join.{joining}
use Rattle.joins.specs.Merge.{pairs_count}
use Rattle.capi.specs.Exported.{after_join}
use Rattle.capi.specs.Numbers.{one_number}
use Rattle.capi.proofs.ToldLaws.{also, one_told}
use Rattle.capi.proofs.juolgesot_join.Goals as goal

pub returns : goal.returns
unfolding after_join
returns c =
    let o = joining c.args.a.now c.args.b.now (length c.args.out.now) in
    let numbers = c.tell_length.ensures ∙ (ap one_number c.join_sets.ensures.value ∙ one_told pairs_count o) in
    also numbers (also c.join_sets.ensures.out_after refl)
