use mathlib.Core.Path.{sym, ◌∙◌}
use native.Mathlib.Omega.{arith}
use Rattle.reads_try.proofs.LateLaws.{late_step, late_end}
use Rattle.reads_try.proofs.late_full.Goals as goal

pub returns-then-full_in : goal.returns-then-full_in
returns-then-full_in c =
    let looked = late_step c.args.set.now c.requires.0 c.args.k c.args.keys.now c.loop-key.key-index _ _ c.loop-key.left _ (omega arith)
    c.min-a.ensures c.min-e.ensures c.full_in.ensures in
    sym (rw c.if-full_in.true at looked) ∙ c.loop-key.invariant.1

pub loop-key-preserved : goal.loop-key-preserved
loop-key-preserved c =
    let looked = late_step c.args.set.now c.requires.0 c.args.k c.args.keys.now c.loop-key.key-index _ _ c.loop-key.left _ (omega arith)
    c.min-a.ensures c.min-e.ensures c.full_in.ensures in
    rw c.saturating_sub-left.ensures (omega arith, sym (rw c.if-full_in.false at looked) ∙ c.loop-key.invariant.1)

pub returns : goal.returns
returns c =
    sym (late_end c.args.set.now c.requires.0 c.args.k c.args.keys.now c.loop-key.key-index c.loop-key.left (omega arith)) ∙ c.loop-key.invariant.1
