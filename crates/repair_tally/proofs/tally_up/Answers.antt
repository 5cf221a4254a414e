use mathlib.Core.Path.{refl, sym, ◌∙◌}
use Prim.Native.Nat.{◌*◌}
use native.Mathlib.Omega.{arith}
use lib.ListN.{take}
use Rattle.repair_tally.specs.Tally.{raised, raising}
use Rattle.repair_tally.proofs.TallyStepLaws.{told_new, told_over, new_most, way_on, way_stop, way_skip, way_end}
use Rattle.repair_tally.proofs.tally_up.Goals as goal
use Rattle.repair_tally.proofs.tally_up.Goals.{then-spots-k+in_ok-n, else-spots-k}

pub loop-k-init : goal.loop-k-init
loop-k-init c = (omega arith, omega arith, refl, refl, refl)

pub overflow_cast-spots : goal.overflow_cast-spots
overflow_cast-spots c = omega (arith, c.type_inv.spots (2 * c.loop-k.k))

pub raise-requires : goal.raise-requires
raise-requires c = (c.requires.0 c.loop-k.k (omega arith), omega (arith, c.requires.1))

pub loop-k-preserved : goal.loop-k-preserved
loop-k-preserved c =
    elim c.if-spots-k.branch [
      | then-spots-k+in_ok-n w ↦
          let k = told_new _ _ _ _ _ w.raise.ensures w.in_ok-n.was in
          let b = new_most _ _ _ _ _ _ _ k.0 c.loop-k.invariant.1 k.1 in
          rw (w.n-is, w.map-is, w.fresh-is) (
            omega arith,
            k.1,
            omega arith,
            omega arith,
            sym (way_on raising c.args.height (raised c.loop-k.map (take c.loop-k.n c.loop-k.fresh)) c.args.spots.now c.loop-k.k (omega arith) (raised w.raise.new.map (take w.in_ok-n.n w.raise.new.fresh)) (omega arith) k.0) ∙ c.loop-k.invariant.4,
          )
      | else-spots-k w ↦
          rw (w.n-is, w.map-is, w.fresh-is) (
            omega arith,
            c.loop-k.invariant.1,
            c.loop-k.invariant.2,
            c.loop-k.invariant.3,
            sym (way_skip raising c.args.height (raised c.loop-k.map (take c.loop-k.n c.loop-k.fresh)) c.args.spots.now c.loop-k.k (omega arith) (omega arith)) ∙ c.loop-k.invariant.4,
          )
    ]

pub returns-in_err-n : goal.returns-in_err-n
returns-in_err-n c =
    let k = told_over _ _ _ _ c.raise.ensures c.in_err-n.was in
    rw c.from_residual.ensures
    (sym c.loop-k.invariant.4 ∙ way_stop raising c.args.height (raised c.loop-k.map (take c.loop-k.n c.loop-k.fresh)) c.args.spots.now c.loop-k.k (omega arith) (omega arith) k)

pub returns : goal.returns
returns c =
    (sym c.loop-k.invariant.4 ∙ way_end raising c.args.height (raised c.loop-k.map (take c.loop-k.n c.loop-k.fresh)) c.args.spots.now c.loop-k.k (omega arith), c.loop-k.invariant.1)
