-- The cases of an extra, as the tests say.
-- Assumes nothing.
use Rattle.std.proofs.Common.{sym, arith}
use Rattle.plan_counts.proofs.DifferentLaws.{extra_same, extra_yes, extra_no}
use Rattle.plan_counts.proofs.activations.extra_of.Goals as goal
use Rattle.plan_counts.proofs.activations.extra_of.Goals.{else-y-x-via-then-y-x+else-y-x-2, else-y-x-via-else-y-x}

pub returns-then-y-x-2 : goal.returns-then-y-x-2
returns-then-y-x-2 c = (sym (extra_yes _ _ c.if-y-x.true c.if-y-x-2.true), omega arith)

pub returns-else-y-x : goal.returns-else-y-x
returns-else-y-x c =
    elim c.else-y-x.branch [
      | else-y-x-via-then-y-x+else-y-x-2 w ↦ (sym (extra_no _ _ w.if-y-x.true w.if-y-x-2.false), omega arith)
      | else-y-x-via-else-y-x w ↦ (sym (extra_same _ _ w.if-y-x.false), omega arith)
    ]
