-- `run::states::begin_blocks` meets its contract. The invariant: the first b blocks stand at their first turn.
-- Assumes nothing.
use mathlib.Core.Path.{◌≡◌}
use lib.ListN.{length}
use Rattle.run.proofs.StateLaws.{Begun}
use Rattle.run.proofs.states.begin_blocks.Given as goal

abbrev pub invariant-loop-b : goal.invariant-loop-b
invariant-loop-b l = (length l.room ≡ length l.initial.room) × Begun l.words l.starts l.room l.b
