-- `run_form::form::block_form` meets its contract: one law for each way through.
-- Assumes nothing.
use mathlib.Core.Path.{sym, ◌∙◌}
use Rattle.run_form.proofs.BlockFormLaws.{block_none, block_outside, block_empty, block_parts_lem}
use Rattle.run_form.proofs.form.block_form.Goals as goal

pub returns-then-end-at : goal.returns-then-end-at
returns-then-end-at c = block_none _ _ _ _ _ _ c.if-end-at.true

pub returns-then-script-end : goal.returns-then-script-end
returns-then-script-end c = block_outside _ _ _ _ _ _ c.if-end-at.false c.if-script-end.true

pub returns-then-empty_form : goal.returns-then-empty_form
returns-then-empty_form c = block_empty _ _ _ _ _ _ c.if-end-at.false c.if-script-end.false (sym c.empty_form.ensures ∙ c.if-empty_form.true)

pub returns : goal.returns
returns c = block_parts_lem _ _ _ _ _ _ _ c.if-end-at.false c.if-script-end.false (sym c.empty_form.ensures ∙ c.if-empty_form.false) c.parts_form.ensures
