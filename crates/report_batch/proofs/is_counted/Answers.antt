use Prim.Native.Nat.{◌-◌}
use native.Mathlib.Omega.{arith}
use Rattle.report_batch.proofs.BatchFormLaws.{parts_over, left_start, left_over, left_next, left_end}
use Rattle.report_batch.proofs.is_counted.Goals as goal

pub returns-then-fed-parts : goal.returns-then-fed-parts
returns-then-fed-parts c =
    parts_over c.args.batch.now _ _ c.word-fed.ensures c.word-parts.ensures c.if-fed-parts.true

pub loop-k-init : goal.loop-k-init
loop-k-init c =
    left_start c.args.batch.now _ _ c.word-fed.ensures c.word-parts.ensures c.if-fed-parts.false (c.word-fed.result - c.word-parts.result) (omega arith)

pub returns-then-left-count : goal.returns-then-left-count
returns-then-left-count c =
    left_over c.args.batch.now _ _ _ c.loop-k.invariant c.loop-k-test.true c.word-count.ensures c.if-left-count.true

pub loop-k-preserved : goal.loop-k-preserved
loop-k-preserved c =
    left_next c.args.batch.now _ _ _ c.loop-k.invariant c.loop-k-test.true c.word-count.ensures c.if-left-count.false (c.loop-k.left - c.word-count.result) (omega arith)

pub returns : goal.returns
returns c =
    left_end c.args.batch.now _ _ c.loop-k.invariant c.loop-k-test.false
