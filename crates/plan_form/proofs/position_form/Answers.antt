-- The definition, with the words that were read.
-- Assumes nothing.
use Rattle.plan_record.specs.Form.{position_form}
use Rattle.plan_form.proofs.position_form.Goals as goal

pub returns : goal.returns
unfolding position_form
returns c = cc
