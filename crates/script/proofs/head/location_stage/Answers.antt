use mathlib.Core.Path.{refl, sym, ap, ap₂, ◌∙◌}
use Prim.Native.Nat.{ℕ, ◌+◌}
use native.Mathlib.Omega.{arith}
use Rattle.words.specs.Sum.{sum_to}
use Rattle.words.proofs.SumLaws.{sum_more}
use Rattle.plan_record.specs.Record.{stage_locations}
use Rattle.script.proofs.HeadLaws.{ended_by, ended_more, stage_is}
use Rattle.script.proofs.head.location_stage.Goals as goal

pub loop-s-init : goal.loop-s-init
unfolding sum_to
loop-s-init c = (refl, omega arith, refl, omega arith)

pub loop-s-preserved : goal.loop-s-preserved
loop-s-preserved c =
    let e = ap₂ ◌+◌ c.loop-s.invariant.0 c.stage_locations.ensures ∙ sym (sum_more (stage_locations c.args.part.now.d.now c.args.part.now.p) c.loop-s.s) in (
      e,
      omega arith,
      ap (λ (x : ℕ). x + c.ends_by-ended.result) c.loop-s.invariant.2 ∙ ended_more c.args.part.now.d.now c.args.part.now.p c.args.l c.loop-s.s _ _ e c.ends_by-ended.ensures.0,
      omega arith,
    )

pub returns : goal.returns
returns c =
    (c.loop-s.invariant.2 ∙ ap (ended_by c.args.part.now.d.now c.args.part.now.p c.args.l) (omega arith) ∙ stage_is _ _ _ _ c.args.part.now.of.stages, omega arith)
