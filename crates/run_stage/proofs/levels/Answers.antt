use native.Mathlib.Omega.{arith}
use lib.ListN.{length-set}
use Rattle.run_stage.proofs.LevelLaws.{going_none, going_more, levels_end}
use Rattle.run_stage.proofs.levels.Goals as goal

pub loop-m-init : goal.loop-m-init
loop-m-init c = going_none _ _ _ _ c.requires.0.1

pub level-requires : goal.level-requires
level-requires c = omega arith

pub loop-m-smaller : goal.loop-m-smaller
loop-m-smaller c = omega arith

pub loop-m-preserved : goal.loop-m-preserved
loop-m-preserved c = going_more _ _ _ _ _ _ c.loop-m.invariant (omega arith) c.level.ensures

pub bounds-l-1 : goal.bounds-l-1
bounds-l-1 c = omega arith

pub bounds-t-0 : goal.bounds-t-0
bounds-t-0 c = omega arith

pub bounds-t-1 : goal.bounds-t-1
bounds-t-1 c = omega arith

pub bounds-t-2 : goal.bounds-t-2
bounds-t-2 c = omega arith

pub bounds-l-0 : goal.bounds-l-0
bounds-l-0 c = omega arith

pub shape_of-l : goal.shape_of-l
shape_of-l c = simp length-set (omega arith)

pub returns : goal.returns
returns c =
    λ k e.
    levels_end c.args.t.now c.args.l.now c.loop-m.l _ _ k _ c.loop-m.invariant c.loop-m-test.false (omega arith) c.low_word.type_inv c.low_word.ensures e
