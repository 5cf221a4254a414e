use native.Mathlib.Omega.{arith}
use lib.Count.{count_trailing_zeros}
use lib.Pow.{shr_le}
use Rattle.run_read.proofs.AppendLaws.{appending_none, appending_more, appending_end}
use Rattle.run_read.proofs.append.Goals as goal

pub loop-m-init : goal.loop-m-init
loop-m-init c = appending_none _ _ _ c.ranges.mask.fits c.requires

pub overflow_shr-w : goal.overflow_shr-w
overflow_shr-w c =
    let n = appending_more _ _ _ _ _ _ c.loop-m.invariant c.loop-m-test.true in
    n.short

pub overflow_shr-m : goal.overflow_shr-m
overflow_shr-m c =
    let n = appending_more _ _ _ _ _ _ c.loop-m.invariant c.loop-m-test.true in
    n.short

pub overflow_mul-a : goal.overflow_mul-a
overflow_mul-a c =
    let n = appending_more _ _ _ _ _ _ c.loop-m.invariant c.loop-m-test.true in
    omega (arith, n.holds)

pub overflow_add-a : goal.overflow_add-a
overflow_add-a c =
    let n = appending_more _ _ _ _ _ _ c.loop-m.invariant c.loop-m-test.true in
    omega (arith, n.holds)

pub loop-m-smaller : goal.loop-m-smaller
loop-m-smaller c = omega (arith, shr_le c.loop-m.m (count_trailing_zeros 32 c.loop-m.m))

pub loop-m-preserved : goal.loop-m-preserved
loop-m-preserved c =
    let n = appending_more _ _ _ _ _ _ c.loop-m.invariant c.loop-m-test.true in
    n.next

pub returns : goal.returns
returns c = appending_end _ _ _ _ _ _ c.loop-m.invariant c.loop-m-test.false
