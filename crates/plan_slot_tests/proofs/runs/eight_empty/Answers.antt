use mathlib.Core.Path.{◌≡◌, refl, ap, ◌∙◌}
use native.Mathlib.Omega.{arith}
use Rattle.words.specs.Tests.{all_below}
use Rattle.plan_slot_tests.specs.EmptyRuns.{empty_from}
use Rattle.plan_slot_tests.proofs.EmptyRunLaws.{common_more}
use Rattle.plan_slot_tests.proofs.runs.eight_empty.Goals as goal

pub loop-k-init : goal.loop-k-init
unfolding all_below
loop-k-init c = (omega arith, refl)

pub loop-k-preserved : goal.loop-k-preserved
loop-k-preserved c =
    let (fits, is) = common_more c.args.part.now.d.now c.args.part.now.p c.args.s c.args.q c.loop-k.k c.loop-k.all c.slot-all.result.0 c.loop-k.invariant.0 (omega arith) c.slot-all.ensures c.loop-k.invariant.1 in
    (fits, is)

pub returns : goal.returns
returns c =
    let e : c.loop-k.k ≡ 8 = omega arith in
    c.loop-k.invariant.1 ∙ ap (all_below (empty_from c.args.part.now.d.now c.args.part.now.p c.args.s c.args.q)) e
