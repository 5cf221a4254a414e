-- Zeros, and then word 1.
-- Assumes nothing.
use Rattle.script_layout.proofs.PlacedLaws.{empty_made}
use Rattle.script_layout.proofs.placed.write_empty.Goals as goal

pub returns : goal.returns
returns c = empty_made _ _ c.requires c.clear.ensures
