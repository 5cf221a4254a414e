use mathlib.Core.Path.{refl, ◌∙◌, ap}
use native.Mathlib.Omega.{arith}
use Rattle.words.specs.Tests.{lowest}
use Rattle.plan_slots.specs.Slots.{eleven_right, bad_item, refusal11}
use Rattle.words.proofs.FoundLaws.{pass_start, pass_fault, pass_next, pass_end}
use Rattle.plan_slot_tests.proofs.ItemLaws.{form_majors, form_ready, form_stages}
use Rattle.plan_slot_tests.proofs.computed.eleven_parts.Goals as goal

pub parts_of-p-end-requires : goal.parts_of-p-end-requires
parts_of-p-end-requires c = form_majors c.args.d.now c.requires.0

pub first_body-at-requires : goal.first_body-at-requires
first_body-at-requires c = form_majors c.args.d.now c.requires.0

pub loop-p-init : goal.loop-p-init
unfolding refusal11
loop-p-init c =
    (c.first_body-at.ensures.0, refl, pass_start (λ q. bad_item c.args.d.now (eleven_right c.args.d.now q) q) c.parts_of-p-end.result ∙ ap (lowest (λ q. bad_item c.args.d.now (eleven_right c.args.d.now q) q)) c.parts_of-p-end.ensures.0)

pub at-part-requires : goal.at-part-requires
at-part-requires c =
    form_ready c.args.d.now c.requires.0 _ c.loop-p.p c.loop-p.at c.parts_of-p-end.ensures.0 c.loop-p-test.true c.loop-p.invariant.0

pub eleven_part-requires : goal.eleven_part-requires
eleven_part-requires c =
    (form_stages c.args.d.now c.requires.0 _ c.loop-p.p _ c.parts_of-p-end.ensures.0 c.loop-p-test.true c.at-part.ensures.2, omega (arith, c.loop-p.invariant.1, c.requires.1))

pub loop-p-preserved : goal.loop-p-preserved
loop-p-preserved c = (
  c.at-part.ensures.2.end,
  c.eleven_part.auto.table ∙ c.loop-p.invariant.1,
  pass_next (λ q. bad_item c.args.d.now (eleven_right c.args.d.now q) q) _ c.loop-p.p _ c.loop-p.invariant.2
      c.loop-p-test.true c.eleven_part.result (rw (c.at-part.ensures.0, c.at-part.ensures.1) at c.eleven_part.ensures) c.in_default.is,
)

pub shape_of-room-in-Some : goal.shape_of-room-in-Some
shape_of-room-in-Some c =
    c.eleven_part.auto.table ∙ c.loop-p.invariant.1

pub returns-in-Some : goal.returns-in-Some
returns-in-Some c =
    pass_fault (λ q. bad_item c.args.d.now (eleven_right c.args.d.now q) q) _ c.loop-p.p _ c.loop-p.invariant.2 c.loop-p-test.true c.eleven_part.result (rw (c.at-part.ensures.0, c.at-part.ensures.1) at c.eleven_part.ensures) _ c.in-Some.is

pub returns : goal.returns
returns c =
    pass_end (λ q. bad_item c.args.d.now (eleven_right c.args.d.now q) q) _ c.loop-p.p _ c.loop-p.invariant.2 (omega arith)
