-- The definition, with the words that were read.
-- Assumes nothing.
use Rattle.plan_record.specs.Form.{head_form}
use Rattle.plan_form.proofs.head_form.Goals as goal

pub returns : goal.returns
unfolding head_form
returns c = cc
