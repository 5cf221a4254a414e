use Rattle.std.proofs.Common.{◌<◌, ◌∙◌, sym, subst, ap₂, ℕ, List, arith}
use Rattle.plan_record.specs.Record.{parts_of}
use Rattle.plan_record.proofs.PlanFormLaws.{formed, body_ready}
use Rattle.words.specs.Found.{item_of}
use Rattle.words.proofs.FoundLaws.{pass_start, pass_fault, pass_next, pass_end}
use Rattle.plan_counts.specs.Counts.{bad_counts, refusal7}
use Rattle.plan_counts.specs.Parts.{Countable}
use Rattle.plan_counts.proofs.PartCountLaws.{countable}
use Rattle.plan_counts.proofs.check_counts.Goals as goal

pub first_body-at-requires : goal.first_body-at-requires
first_body-at-requires c = (formed _ c.requires.0).head.majors

pub parts_of-p-end-requires : goal.parts_of-p-end-requires
parts_of-p-end-requires c = (formed _ c.requires.0).head.majors

pub loop-p-init : goal.loop-p-init
unfolding refusal7
loop-p-init c = (c.first_body-at.ensures.0, pass_start _ _)

pub at-part-requires : goal.at-part-requires
at-part-requires c =
    let among : c.loop-p.p < parts_of c.args.d.now = omega (arith, c.parts_of-p-end.ensures.0) in
    body_ready _ (formed _ c.requires.0).sizes _ _ among c.loop-p.invariant.0

pub bad_counts-requires : goal.bad_counts-requires
bad_counts-requires c =
    let among : c.loop-p.p < parts_of c.args.d.now = omega (arith, c.parts_of-p-end.ensures.0) in
    let part = c.at-part.ensures in (
      subst (λ (p : ℕ). Countable c.at-part.result.d.now p c.at-part.result.body) (sym part.1)
          (subst (λ (d : List ℕ). Countable d c.loop-p.p c.at-part.result.body) (sym part.0) (countable _ _ _ c.requires.0 among part.2)),
      omega arith,
      omega arith,
    )

pub returns-in-Some : goal.returns-in-Some
returns-in-Some c =
    let among : c.loop-p.p < parts_of c.args.d.now = omega (arith, c.parts_of-p-end.ensures.0) in
    pass_fault _ _ _ _ c.loop-p.invariant.1 among _ (c.bad_counts.ensures ∙ ap₂ (λ d p. item_of (bad_counts d p)) c.at-part.ensures.0 c.at-part.ensures.1) _ c.in-Some.is

pub loop-p-preserved : goal.loop-p-preserved
loop-p-preserved c =
    let among : c.loop-p.p < parts_of c.args.d.now = omega (arith, c.parts_of-p-end.ensures.0) in (
      c.at-part.ensures.2.end,
      pass_next _ _ _ _ c.loop-p.invariant.1 among _ (c.bad_counts.ensures ∙ ap₂ (λ d p. item_of (bad_counts d p)) c.at-part.ensures.0 c.at-part.ensures.1) c.in_default.is,
    )

pub returns : goal.returns
returns c = pass_end _ _ _ _ c.loop-p.invariant.1 (omega (arith, c.parts_of-p-end.ensures.0))
