-- The numbers are those of the answer, and each slice is left as the function behind says.
-- Assumes nothing.
use mathlib.Core.Path.{refl, ap, ◌∙◌}
use lib.ListN.{length}
use Rattle.aiger.specs.Reading.{read_aiger}
use Rattle.aiger.specs.AigerAnswer.{fitting}
use Rattle.capi.specs.Exported.{after_read_aiger}
use Rattle.capi.specs.Numbers.{gates_numbers}
use Rattle.capi.proofs.ToldLaws.{also, gates_told}
use Rattle.capi.proofs.juolgesot_read_aiger.Goals as goal

pub returns : goal.returns
unfolding after_read_aiger
returns c =
    let o = fitting (length c.args.out.now) (read_aiger c.args.bytes.now) in
    let numbers = c.tell_header.ensures ∙ (ap gates_numbers c.read_gates.ensures.value ∙ gates_told o) in
    also numbers (also c.read_gates.ensures.out_after refl)
