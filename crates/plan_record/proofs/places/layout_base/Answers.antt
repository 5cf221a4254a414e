-- The definition, unfolded.
-- Assumes nothing.
use borrow.Author.Rules.{rules}
use Rattle.plan_record.specs.Record.{layout_base}
use Rattle.plan_record.proofs.places.layout_base.Goals as goal

pub returns : goal.returns
unfolding layout_base
returns c = search rules
