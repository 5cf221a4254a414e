-- `run_form::form::last_mark` meets its contract: by the test.
-- Assumes nothing.
use Rattle.run_form.proofs.BlockFormLaws.{part_mark_last, part_mark_more}
use Rattle.run_form.proofs.form.last_mark.Goals as goal

pub returns-then-end-e : goal.returns-then-end-e
returns-then-end-e c = part_mark_last _ _ c.if-end-e.true

pub returns-else-end-e : goal.returns-else-end-e
returns-else-end-e c = part_mark_more _ _ c.if-end-e.false
