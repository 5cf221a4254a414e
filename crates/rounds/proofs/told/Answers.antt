-- `told`: the two cases of the definition.
-- Assumes nothing.
use Rattle.rounds.proofs.PieceSizeLaws.{told_last, told_before}
use Rattle.rounds.proofs.told.Goals as goal

pub returns-then-k-gt1 : goal.returns-then-k-gt1
returns-then-k-gt1 c = told_before c.args.k c.args.stuck.word c.if-k-gt1.true

pub returns-else-k-gt1 : goal.returns-else-k-gt1
returns-else-k-gt1 c = told_last c.args.k c.args.stuck.word c.if-k-gt1.false
