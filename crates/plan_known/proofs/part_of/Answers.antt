use mathlib.Core.Path.{ap, ◌∙◌}
use native.Mathlib.Omega.{arith}
use Rattle.plan_record.specs.Record.{body_at}
use Rattle.plan_record.proofs.PlanFormLaws.{formed, body_ready}
use Rattle.plan_known.proofs.part_of.Goals as goal

pub first_body-at-requires : goal.first_body-at-requires
first_body-at-requires c = (formed _ c.requires.0).head.majors

pub at-at-requires : goal.at-at-requires
at-at-requires c = body_ready _ (formed _ c.requires.0).sizes _ _ (omega (arith, c.requires.1, c.loop-k-test.true)) c.loop-k.invariant

pub at-requires : goal.at-requires
at-requires c =
    body_ready _ (formed _ c.requires.0).sizes _ _ c.requires.1 (c.loop-k.invariant ∙ ap (body_at c.args.d.now) (omega arith))
