-- `run_form::form::halves_form` meets its contract: by the two tests.
-- Assumes nothing.
use borrow.Author.Tests.{lt-ltb, le-ltb}
use Rattle.run_form.proofs.form.halves_form.Goals as goal

pub returns-then-x-slots : goal.returns-then-x-slots
returns-then-x-slots c = simp (lt-ltb _ _ c.if-x-slots.true)

pub returns-else-x-slots : goal.returns-else-x-slots
returns-else-x-slots c = simp (le-ltb _ _ c.if-x-slots.false)
