-- `passed_over`: each test is a part of the answer.
-- Assumes nothing.
use native.Mathlib.Omega.{arith}
use Rattle.rounds.proofs.PieceSizeLaws.{not_looked, look_last, look_late}
use Rattle.rounds.proofs.passed_over.Goals as goal

pub returns-then-not-look : goal.returns-then-not-look
returns-then-not-look c = not_looked c.args.look _ c.if-not-look.true

pub returns-then-k-le1 : goal.returns-then-k-le1
returns-then-k-le1 c = look_last c.args.look c.args.k _ c.if-not-look.false c.if-k-le1.true

pub late_full-requires : goal.late_full-requires
late_full-requires c =
    (c.requires.whole, c.requires.few, c.requires.few-lanes, omega (arith, c.requires.few, c.requires.size))

pub returns : goal.returns
returns c =
    look_late c.args.look c.args.k _ _ c.if-not-look.false c.if-k-le1.false c.late_full.ensures
