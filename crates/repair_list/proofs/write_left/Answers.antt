use mathlib.Core.Path.{refl, sym, ◌∙◌}
use native.Mathlib.Omega.{arith}
use Rattle.repair_list.proofs.RelistLaws.{left_size, left_on, left_last}
use Rattle.repair_list.proofs.write_left.Goals as goal

pub loop-i-init : goal.loop-i-init
loop-i-init c =
    (refl, omega arith, refl)

pub write_left_one-n-requires : goal.write_left_one-n-requires
write_left_one-n-requires c =
    let z = left_size c.args.map.now c.args.counts.now c.loop-i.i (omega arith) in
    (c.requires.0 c.loop-i.i (omega arith), omega (arith, c.requires.1, c.loop-i.invariant.1))

pub loop-i-preserved : goal.loop-i-preserved
loop-i-preserved c =
    let z = left_size c.args.map.now c.args.counts.now c.loop-i.i (omega arith) in (
      omega arith,
      omega (arith, c.loop-i.invariant.1, c.write_left_one-n.ensures.count),
      left_on c.args.map.now c.args.counts.now c.loop-i.after _ c.loop-i.i c.loop-i.n _ (omega arith) c.write_left_one-n.ensures ∙ c.loop-i.invariant.2,
    )

pub returns : goal.returns
returns c =
    sym (left_last c.args.map.now c.args.counts.now c.loop-i.after c.loop-i.i c.loop-i.n (omega arith)) ∙ c.loop-i.invariant.2
