-- Its kind, then the numbers that it holds.
-- Assumes nothing.
use Rattle.plan_record.specs.Form.{endpoint_form}
use Rattle.plan_form.proofs.endpoint_form.Goals as goal

pub returns : goal.returns
unfolding endpoint_form
returns c = cc
