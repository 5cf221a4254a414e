-- The definition, with the words that were read.
-- Assumes nothing.
use Rattle.plan_record.specs.Form.{layout_form}
use Rattle.plan_form.proofs.layout_form.Goals as goal

pub returns : goal.returns
unfolding layout_form
returns c = cc
