use Rattle.std.proofs.Common.{refl, sym, ap, ◌∙◌}
use native.Mathlib.Omega.{arith}
use Rattle.words.specs.Found.{item_of}
use Rattle.plan_slot_tests.proofs.ItemLaws.{stage_next, stage_eight, stage_fault, stage_end}
use Rattle.plan_slot_tests.proofs.runs.first_wrong.Goals as goal

pub loop-j-init : goal.loop-j-init
loop-j-init g c = (omega arith, omega arith, λ f e same told run. (omega arith, refl))

pub loop-j-preserved-then-empty : goal.loop-j-preserved-then-empty
loop-j-preserved-then-empty g c = (
  omega arith,
  omega arith,
  λ f e same told run.
      let eight = run c.loop-j.j c.loop-j.invariant.0 (sym (told c.loop-j.j c.loop-j.invariant.0 c.loop-j-test.true _ c.empty.ensures) ∙ c.if-empty.true) in
      stage_eight c.args.body.lanes f c.args.s c.loop-j.j _ (c.loop-j.invariant.2 f e same told run).1 c.loop-j-test.true eight,
)

pub loop-j-preserved : goal.loop-j-preserved
loop-j-preserved g c = (
  omega arith,
  omega arith,
  λ f e same told run.
      (omega (arith, c.loop-j-test.true), stage_next c.args.body.lanes f c.args.s c.loop-j.j _ (c.loop-j.invariant.2 f e same told run).1 c.loop-j-test.true (sym (same c.loop-j.j c.loop-j.invariant.0 c.loop-j-test.true _ c.right.ensures) ∙ c.if-right.true)),
)

pub returns-else-right : goal.returns-else-right
returns-else-right g c = λ f e same told run.
    ap item_of (stage_fault c.args.body.lanes f c.args.s c.loop-j.j _ (c.loop-j.invariant.2 f e same told run).1 c.item_at.result c.item_at.ensures c.loop-j-test.true (sym (same c.loop-j.j c.loop-j.invariant.0 c.loop-j-test.true _ c.right.ensures) ∙ c.if-right.false))

pub returns : goal.returns
returns g c = λ f e same told run. ap item_of (stage_end c.args.body.lanes f c.args.s c.loop-j.j _ (c.loop-j.invariant.2 f e same told run).1 (omega arith))
