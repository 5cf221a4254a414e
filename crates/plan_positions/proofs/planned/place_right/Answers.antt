-- No entry; an unstaged position is asked for its word in the state, a staged one for a normal word.
-- Assumes nothing.
use Rattle.plan_positions.proofs.PlannedLaws.{place_none, unstaged_right, staged_right}
use Rattle.plan_positions.proofs.planned.place_right.Goals as goal

pub returns-then-w-eq0 : goal.returns-then-w-eq0
returns-then-w-eq0 c = place_none _ _ _ c.if-w-eq0.true

pub returns-then-x-eq0 : goal.returns-then-x-eq0
returns-then-x-eq0 c =
    unstaged_right c.args.d.now c.args.room.now c.args.state c.args.n c.requires c.args.w _ c.planned_by-x.ensures _ c.word-word.ensures c.if-x-eq0.true

pub returns : goal.returns
returns c =
    staged_right c.args.d.now c.args.room.now c.args.state c.args.n c.requires c.args.w _ c.planned_by-x.ensures _ c.word-word.ensures _ c.if-x-eq0.false c.is_normal.ensures
