use Prim.Native.Nat.{◌*◌}
use native.Mathlib.Omega.{arith}
use mathlib.Core.Path.{◌≡◌}
use Rattle.run_stage.proofs.StoreLoopLaws.{filled_none}
use Rattle.run_stage.proofs.LevelLaws.{level_more}
use Rattle.run_stage.proofs.level.Goals as goal

pub loop-w-init : goal.loop-w-init
loop-w-init c = filled_none _ _ _

pub offset_bounds-l-w : goal.offset_bounds-l-w
offset_bounds-l-w c = omega arith

pub bounds-l-w : goal.bounds-l-w
bounds-l-w c = omega arith

pub loop-w-preserved : goal.loop-w-preserved
loop-w-preserved c =
    (level_more c.args.t.now c.args.l.now _ _ _ _ c.loop-w.invariant (omega arith) (omega arith) (omega arith) c.gate_at.ensures)

pub returns : goal.returns
returns c =
    let e : c.loop-w.w ≡ 2 * c.args.m = omega arith in
    rw e at c.loop-w.invariant
