use mathlib.Core.Path.{◌≡◌, refl, sym, ap, ap₂, ◌∙◌}
use Prim.Native.Nat.{◌+◌}
use native.Mathlib.Omega.{arith}
use Rattle.words.specs.Sum.{sum_to}
use Rattle.plan_record.specs.Record.{parts_before}
use Rattle.plan_record.proofs.RecordLaws.{parts_more}
use Rattle.plan_record.proofs.places.parts_before.Goals as goal

pub loop-i-init : goal.loop-i-init
unfolding parts_before sum_to
loop-i-init c = (refl, omega arith)

pub loop-i-preserved : goal.loop-i-preserved
loop-i-preserved c = (
  ap₂ ◌+◌ c.loop-i.invariant.0 c.word_at.ensures ∙ sym (parts_more c.args.d.now c.loop-i.i),
  omega arith,
)

pub returns : goal.returns
returns c =
    let e : c.loop-i.i ≡ c.args.s = omega arith in
    (c.loop-i.invariant.0 ∙ ap (parts_before c.args.d.now) e, omega arith)
