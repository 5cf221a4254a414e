use native.Mathlib.Omega.{arith}
use Rattle.aiger_write.proofs.ByteLaws.{putting_start, putting_short, putting_more, putting_done}
use Rattle.aiger_write.proofs.bytes.put_difference.Goals as goal

pub loop-rest-init : goal.loop-rest-init
loop-rest-init c = putting_start _ _ c.ranges.x.fits

pub put-requires : goal.put-requires
put-requires c = omega (arith, putting_short c.loop-rest.invariant)

pub put-requires-2 : goal.put-requires-2
put-requires-2 c = omega (arith, putting_short c.loop-rest.invariant)

pub loop-rest-preserved : goal.loop-rest-preserved
loop-rest-preserved c = putting_more c.loop-rest.invariant c.loop-rest-test.true c.put.ensures

pub returns : goal.returns
returns c = putting_done c.loop-rest.invariant (omega (arith, c.loop-rest-test.false)) c.put-2.ensures
