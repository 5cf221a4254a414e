-- The position that the entry gives, in the old state or in the new.
-- Assumes nothing.
use Rattle.plan_known.proofs.PlannedBitLaws.{unstaged_bit, staged_bit}
use Rattle.plan_known.proofs.planned_bit.Goals as goal

pub returns-then-x-eq0 : goal.returns-then-x-eq0
returns-then-x-eq0 c =
    unstaged_bit c.args.d.now c.args.old.now c.args.new.now c.args.w _ c.planned_by-x.ensures _ c.if-x-eq0.true c.state_bit.ensures

pub returns : goal.returns
returns c =
    staged_bit c.args.d.now c.args.old.now c.args.new.now c.args.w _ c.planned_by-x.ensures _ c.if-x-eq0.false c.state_bit-2.ensures
