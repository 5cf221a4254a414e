-- The definition, with the words that were read.
-- Assumes nothing.
use Rattle.plan_record.specs.Form.{rest_form}
use Rattle.plan_form.proofs.rest_form.Goals as goal

pub returns : goal.returns
unfolding rest_form
returns c = cc
