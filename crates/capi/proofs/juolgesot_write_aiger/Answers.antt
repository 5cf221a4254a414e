-- The numbers are those of the answer, and each slice is left as the function behind says.
-- Assumes nothing.
use mathlib.Core.Path.{refl, ap, ◌∙◌}
use lib.ListN.{length}
use Rattle.aiger.specs.Writing.{write_aiger}
use Rattle.aiger.specs.AigerAnswer.{holding}
use Rattle.capi.specs.Exported.{after_write_aiger}
use Rattle.capi.specs.Numbers.{one_number}
use Rattle.capi.proofs.ToldLaws.{also, one_told}
use Rattle.capi.proofs.juolgesot_write_aiger.Goals as goal

pub returns : goal.returns
unfolding after_write_aiger
returns c =
    let o = holding (length c.args.out.now) (write_aiger c.args.gates.now) in
    let numbers = c.tell_length.ensures ∙ (ap one_number c.write_gates.ensures.value ∙ one_told length o) in
    also numbers (also c.write_gates.ensures.out_after refl)
