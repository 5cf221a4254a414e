-- One law for each side of the test.
-- Assumes nothing.
use Rattle.plan_positions.proofs.MajorLaws.{latest_next, latest_first}
use Rattle.plan_positions.proofs.ranks.later_first.Goals as goal

pub returns-then-next-p : goal.returns-then-next-p
returns-then-next-p c = latest_next _ _ _ c.if-next-p.true

pub returns : goal.returns
returns c = latest_first _ _ _ c.if-next-p.false
