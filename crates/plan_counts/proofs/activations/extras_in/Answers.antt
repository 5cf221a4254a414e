use Rattle.std.proofs.Common.{◌≡◌, ◌+◌, ◌-◌, arith}
use Rattle.plan_counts.proofs.ActivationLaws.{extras_more, extras_end}
use Rattle.plan_counts.proofs.activations.extras_in.Goals as goal

pub loop-i-preserved : goal.loop-i-preserved
loop-i-preserved c =
    let next : c.loop-i.i - 1 + 1 ≡ c.loop-i.i = omega arith in
    let back : c.loop-i.i + 1 - 1 ≡ c.loop-i.i = omega arith in
    let more = rw next at (extras_more c.args.keys.now (c.loop-i.i - 1) (omega arith)) in
    rw back (omega (arith, c.extra_of-found.ensures.1), omega (arith, more, c.extra_of-found.ensures.0))

pub returns : goal.returns
returns c = omega (arith, extras_end c.args.keys.now (c.loop-i.i - 1) (omega arith))
