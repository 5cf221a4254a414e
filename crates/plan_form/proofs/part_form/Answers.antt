-- The definition, with the words that were read.
-- Assumes nothing.
use Rattle.plan_record.specs.Form.{part_head_form}
use Rattle.plan_form.proofs.part_form.Goals as goal

pub returns : goal.returns
unfolding part_head_form
returns c = cc
