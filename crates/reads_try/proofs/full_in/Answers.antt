use mathlib.Core.Path.{sym, ◌∙◌}
use native.Mathlib.Omega.{arith}
use Rattle.reads_try.proofs.LateLaws.{look_here, look_on, look_end}
use Rattle.reads_try.proofs.full_in.Goals as goal

pub returns-then-set-p : goal.returns-then-set-p
returns-then-set-p c =
    sym (look_here c.args.set.now c.loop-p.p c.args.e c.loop-p-test.true c.requires c.if-set-p.true) ∙ c.loop-p.invariant

pub loop-p-preserved : goal.loop-p-preserved
loop-p-preserved c =
    sym (look_on c.args.set.now c.loop-p.p c.args.e c.loop-p-test.true c.requires c.if-set-p.false) ∙ c.loop-p.invariant

pub returns : goal.returns
returns c =
    sym (look_end c.args.set.now c.loop-p.p c.args.e (omega arith)) ∙ c.loop-p.invariant
