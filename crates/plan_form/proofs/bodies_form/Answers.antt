use Rattle.std.proofs.Common.{◌<◌, refl, sym, ap₂, ◌∙◌, arith}
use Rattle.words.specs.Tests.{all_below}
use Rattle.plan_record.specs.Record.{parts_of}
use Rattle.words.proofs.TestLaws.{all_on, all_less, all_fault}
use Rattle.plan_record.proofs.PlanFormLaws.{body_ready}
use Rattle.plan_form.proofs.bodies_form.Goals as goal
use Rattle.plan_form.proofs.bodies_form.Invariants.{endpoints_right}

pub loop-p-init : goal.loop-p-init
unfolding all_below
loop-p-init c = (c.first_body-at.ensures.0, refl)

pub at-part-requires : goal.at-part-requires
at-part-requires c =
    let l : c.loop-p.p < parts_of c.args.d.now = omega arith in
    body_ready c.args.d.now c.requires c.loop-p.p c.loop-p.at l c.loop-p.invariant.0

pub returns-then-not-endpoints_form : goal.returns-then-not-endpoints_form
returns-then-not-endpoints_form c =
    let told = sym (ap₂ endpoints_right c.at-part.ensures.0 c.at-part.ensures.1) ∙ sym c.endpoints_form.ensures in
    sym (all_fault (endpoints_right c.args.d.now) (parts_of c.args.d.now) c.loop-p.p (omega arith) (told ∙ c.if-not-endpoints_form.true))

pub loop-p-preserved : goal.loop-p-preserved
loop-p-preserved c =
    let told = sym (ap₂ endpoints_right c.at-part.ensures.0 c.at-part.ensures.1) ∙ sym c.endpoints_form.ensures in
    (c.at-part.ensures.2.end, all_on (endpoints_right c.args.d.now) c.loop-p.p c.loop-p.invariant.1 (told ∙ c.if-not-endpoints_form.false))

pub returns : goal.returns
returns c =
    sym (all_less (endpoints_right c.args.d.now) (parts_of c.args.d.now) c.loop-p.p (omega arith) c.loop-p.invariant.1)
