use mathlib.Core.Path.{◌≡◌, refl, sym, ap, ap₂, ◌∙◌}
use Prim.Native.Nat.{ℕ, ◌+◌}
use native.Mathlib.Omega.{arith}
use Rattle.words.specs.Sum.{sum_to}
use Rattle.plan_record.specs.Record.{locations_in}
use Rattle.plan_record.proofs.RecordLaws.{locations_more}
use Rattle.plan_record.proofs.places.locations_in.Goals as goal

pub loop-s-init : goal.loop-s-init
unfolding locations_in sum_to
loop-s-init c = (refl, omega arith)

pub loop-s-preserved : goal.loop-s-preserved
loop-s-preserved c = (
  ap₂ ◌+◌ c.loop-s.invariant.0 c.word_at.ensures ∙ sym (locations_more c.args.d.now c.args.b c.loop-s.s c.args.e),
  omega arith,
)

pub returns : goal.returns
returns c =
    let all : c.loop-s.s ≡ c.args.m = omega arith in
    (c.loop-s.invariant.0 ∙ ap (λ (m : ℕ). locations_in c.args.d.now c.args.b m c.args.e) all, omega arith)
