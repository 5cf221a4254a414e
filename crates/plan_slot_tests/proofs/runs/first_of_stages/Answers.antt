use Rattle.std.proofs.Common.{refl, sym, ap, ◌∙◌}
use native.Mathlib.Omega.{arith}
use Rattle.words.specs.Found.{item_of}
use Rattle.words.proofs.FoundLaws.{item_some, item_none}
use Rattle.plan_slot_tests.proofs.ItemLaws.{stages_next, stages_fault, stages_end}
use Rattle.plan_slot_tests.proofs.runs.first_of_stages.Goals as goal

pub loop-s-init : goal.loop-s-init
loop-s-init g c = λ f n told. refl

pub loop-s-preserved : goal.loop-s-preserved
loop-s-preserved g c = λ f n told.
    stages_next n f c.args.stages c.loop-s.s _ c.loop-s-test.true (c.loop-s.invariant f n told) (item_none _ (sym (told _ c.loop-s-test.true _ c.bad.ensures) ∙ c.in_default.is))

pub returns-in-Some : goal.returns-in-Some
returns-in-Some g c = λ f n told.
    ap item_of (stages_fault n f c.args.stages c.loop-s.s _ c.loop-s-test.true (c.loop-s.invariant f n told) _ (item_some _ _ (sym (told _ c.loop-s-test.true _ c.bad.ensures) ∙ c.in-Some.is)))

pub returns : goal.returns
returns g c = λ f n told. ap item_of (stages_end n f c.args.stages c.loop-s.s _ (omega arith) (c.loop-s.invariant f n told))
