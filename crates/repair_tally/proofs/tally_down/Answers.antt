use mathlib.Core.Path.{refl, sym, ◌∙◌}
use Prim.Native.Nat.{◌*◌}
use native.Mathlib.Omega.{arith}
use Rattle.repair_tally.specs.Tally.{lowering}
use Rattle.repair_tally.proofs.TallyStepLaws.{told_true, told_false, way_on, way_stop, way_skip, way_end}
use Rattle.repair_tally.proofs.tally_down.Goals as goal
use Rattle.repair_tally.proofs.tally_down.Goals.{then-spots-k+else-not-lower, else-spots-k}

pub loop-k-init : goal.loop-k-init
loop-k-init c = (refl, refl)

pub overflow_cast-spots : goal.overflow_cast-spots
overflow_cast-spots c = omega (arith, c.type_inv.spots (2 * c.loop-k.k))

pub lower-requires : goal.lower-requires
lower-requires c = c.requires.0 c.loop-k.k (omega arith)

pub loop-k-preserved : goal.loop-k-preserved
loop-k-preserved c =
    elim c.if-spots-k.branch [
      | then-spots-k+else-not-lower w ↦
          let k = told_true _ _ _ w.lower.ensures w.if-not-lower.false in
          rw w.map-is
          (omega arith, sym (way_on lowering c.args.height c.loop-k.map c.args.spots.now c.loop-k.k (omega arith) w.lower.new.map (omega arith) k) ∙ c.loop-k.invariant.1)
      | else-spots-k w ↦
          rw w.map-is (omega arith, sym (way_skip lowering c.args.height c.loop-k.map c.args.spots.now c.loop-k.k (omega arith) (omega arith)) ∙ c.loop-k.invariant.1)
    ]

pub returns-then-not-lower : goal.returns-then-not-lower
returns-then-not-lower c =
    let k = told_false _ _ _ c.lower.ensures c.if-not-lower.true in
    sym c.loop-k.invariant.1 ∙ way_stop lowering c.args.height c.loop-k.map c.args.spots.now c.loop-k.k (omega arith) (omega arith) k

pub returns : goal.returns
returns c = sym c.loop-k.invariant.1 ∙ way_end lowering c.args.height c.loop-k.map c.args.spots.now c.loop-k.k (omega arith)
