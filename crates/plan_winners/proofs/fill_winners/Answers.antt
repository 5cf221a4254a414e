-- The three lists one after the other are the list of all entries.
-- Assumes nothing.
use Rattle.plan_winners.proofs.WinnerLaws.{winners_put}
use Rattle.plan_winners.proofs.fill_winners.Goals as goal

pub returns : goal.returns
returns c =
    winners_put c.args.d.now c.args.table.now _ _ _ c.fill_marked.ensures c.fill_layout.ensures c.fill_marked-2.ensures
