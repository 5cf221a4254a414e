-- By the definition.
-- Assumes nothing.
use borrow.Author.Rules.{rules}
use Rattle.run_machine.specs.Part.{normal_at}
use Rattle.run_form.proofs.part.Part.normal.Goals as goal

pub returns : goal.returns
unfolding normal_at
returns c = search rules
