use Rattle.std.proofs.Common.{sym, ◌∙◌}
use native.Mathlib.Omega.{arith}
use Rattle.words.proofs.FoundLaws.{look_start, look_fault, look_next, look_end}
use Rattle.words.proofs.found.first_not.Goals as goal

pub loop-i-init : goal.loop-i-init
loop-i-init g c = λ f same. look_start f c.args.n

pub returns-then-not-test : goal.returns-then-not-test
returns-then-not-test g c = λ f same. look_fault f _ _ _ (c.loop-i.invariant f same) c.loop-i-test.true (sym (same _ c.loop-i-test.true _ c.test.ensures) ∙ c.if-not-test.true)

pub loop-i-preserved : goal.loop-i-preserved
loop-i-preserved g c = λ f same. look_next f _ _ _ (c.loop-i.invariant f same) c.loop-i-test.true (sym (same _ c.loop-i-test.true _ c.test.ensures) ∙ c.if-not-test.false)

pub returns : goal.returns
returns g c = λ f same. look_end f _ _ _ (c.loop-i.invariant f same) (omega arith)
