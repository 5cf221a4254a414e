use mathlib.Core.Path.{◌≡◌, subst}
use native.Mathlib.Omega.{arith}
use Rattle.run_stage.specs.Gather.{Gathered}
use Rattle.run_stage.proofs.GatherLaws.{gathered_none, gathered_more}
use Rattle.run_stage.proofs.gather.Goals as goal

pub loop-j-init : goal.loop-j-init
loop-j-init c = gathered_none _ _ _

pub overflow_add-l : goal.overflow_add-l
overflow_add-l c = omega arith

pub offset_bounds-l-n : goal.offset_bounds-l-n
offset_bounds-l-n c = omega arith

pub bounds-l-n : goal.bounds-l-n
bounds-l-n c = omega arith

pub loop-j-preserved : goal.loop-j-preserved
loop-j-preserved c =
    (gathered_more _ _ c.args.l.now _ _ _ c.loop-j.invariant c.gather_word.ensures (omega arith) (omega arith) c.args.p.now.entries)

pub returns : goal.returns
returns c =
    let e : c.loop-j.j ≡ c.args.p.now.lanes = omega arith in
    subst (Gathered _ _ _ _) e c.loop-j.invariant
