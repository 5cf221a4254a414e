-- `plan_known::put_planned` meets its contract: entry 0 is none and puts nothing.
-- Assumes nothing.
use Rattle.plan_known.proofs.KnownLaws.{put_none, put_bit}
use Rattle.plan_known.proofs.put_planned.Goals as goal

pub returns-then-w-eq0 : goal.returns-then-w-eq0
returns-then-w-eq0 c = put_none c.args.d.now c.args.old.now c.args.new.now c.args.table.now c.args.pin.0 c.args.w c.if-w-eq0.true

pub returns : goal.returns
returns c =
    put_bit c.args.d.now c.args.old.now c.args.new.now c.args.table.now c.args.pin.0 c.args.w _ _ c.planned_bit.ensures c.put.ensures.t_after
