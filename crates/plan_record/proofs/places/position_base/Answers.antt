-- The definition, unfolded.
-- Assumes nothing.
use borrow.Author.Rules.{rules}
use Rattle.plan_record.specs.Record.{position_base}
use Rattle.plan_record.proofs.places.position_base.Goals as goal

pub returns : goal.returns
unfolding position_base
returns c = search rules
