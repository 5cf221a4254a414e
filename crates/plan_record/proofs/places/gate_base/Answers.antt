-- The definition, unfolded.
-- Assumes nothing.
use borrow.Author.Rules.{rules}
use Rattle.plan_record.specs.Record.{gate_base}
use Rattle.plan_record.proofs.places.gate_base.Goals as goal

pub returns : goal.returns
unfolding gate_base
returns c = search rules
