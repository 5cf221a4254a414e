use mathlib.Core.Path.{refl, sym, ◌∙◌}
use native.Mathlib.Omega.{arith}
use Rattle.repair_list.proofs.RelistLaws.{clear_on, clear_end}
use Rattle.repair_list.proofs.clear_spots.Goals as goal

pub loop-k-init : goal.loop-k-init
loop-k-init c =
    (refl, refl)

pub put_slot-requires : goal.put_slot-requires
put_slot-requires c =
    let i = c.requires c.loop-k.k (omega arith) in
    (i.some, omega (arith, i.most))

pub loop-k-preserved : goal.loop-k-preserved
loop-k-preserved c =
    (omega arith, rw c.put_slot.ensures (clear_on c.args.spots.now c.loop-k.slots c.loop-k.k (omega arith) ∙ c.loop-k.invariant.1))

pub returns : goal.returns
returns c =
    sym (clear_end c.args.spots.now c.loop-k.slots c.loop-k.k (omega arith)) ∙ c.loop-k.invariant.1
