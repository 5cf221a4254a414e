-- The test decides.
-- Assumes nothing.
use native.Mathlib.Omega.{arith}
use Rattle.script.proofs.HeadLaws.{ends_yes, ends_no}
use Rattle.script.proofs.head.ends_by.Goals as goal

pub returns-then-end-l : goal.returns-then-end-l
returns-then-end-l c = (ends_yes _ _ c.if-end-l.true, omega arith)

pub returns-else-end-l : goal.returns-else-end-l
returns-else-end-l c = (ends_no _ _ c.if-end-l.false, omega arith)
