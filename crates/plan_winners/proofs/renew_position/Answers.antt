-- An entry with the mark is put for its pin; another is passed over.
-- Assumes nothing.
use Rattle.plan_winners.proofs.WinnerLaws.{position_put, position_other}
use Rattle.plan_winners.proofs.renew_position.Goals as goal

pub returns-then-staged-mark : goal.returns-then-staged-mark
returns-then-staged-mark c =
    position_put c.args.positions.now.d.now c.args.table.now c.args.i c.args.mark _ c.staged.ensures _ _ _ c.if-staged-mark.true c.pin.ensures c.requires.after c.put_where_there.ensures

pub returns-else-staged-mark : goal.returns-else-staged-mark
returns-else-staged-mark c = position_other c.args.positions.now.d.now c.args.table.now c.args.i c.args.mark _ c.staged.ensures c.if-staged-mark.false
