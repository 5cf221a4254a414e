-- The definition, unfolded.
-- Assumes nothing.
use borrow.Author.Rules.{rules}
use Rattle.plan_record.specs.Record.{head_base}
use Rattle.plan_record.proofs.places.head_base.Goals as goal

pub returns : goal.returns
unfolding head_base
returns c = search rules
