-- The last part of a block is the one whose next rank ends the block.
-- Assumes nothing.
use mathlib.Core.Path.{sym}
use Rattle.script_assembly.proofs.WriterStepLaws.{mark_last, mark_more}
use Rattle.script_layout.proofs.placed.last_mark.Goals as goal

pub returns-then-k-to : goal.returns-then-k-to
returns-then-k-to c = sym (mark_last _ _ c.if-k-to.true)

pub returns-else-k-to : goal.returns-else-k-to
returns-else-k-to c = sym (mark_more _ _ c.if-k-to.false)
