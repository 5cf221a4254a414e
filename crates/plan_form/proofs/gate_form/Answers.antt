-- The definition, with the words that were read.
-- Assumes nothing.
use Rattle.plan_record.specs.Form.{gate_form}
use Rattle.plan_form.proofs.gate_form.Goals as goal

pub returns : goal.returns
unfolding gate_form
returns c = cc
