use mathlib.Core.Path.{refl, ap, ◌∙◌}
use Prim.Native.Nat.{◌<◌}
use native.Mathlib.Omega.{arith}
use lib.ListN.{length}
use Rattle.plan_record.proofs.PlanFormLaws.{formed, body_ready}
use Rattle.plan_record.specs.Record.{parts_of}
use Rattle.words.proofs.FoundLaws.{pass_start, pass_fault, pass_next, pass_end}
use Rattle.plan_positions.specs.Positions as positions
use Rattle.plan_positions.proofs.PlannedLaws.{tallied, part_ready}
use Rattle.plan_positions.proofs.planned.refusal12.Goals as goal

pub state_words-state-requires : goal.state_words-state-requires
state_words-state-requires c = tallied _ _ c.requires.0

pub parts_of-p-end-requires : goal.parts_of-p-end-requires
parts_of-p-end-requires c = (formed _ c.requires.0.form).head.majors

pub first_body-at-requires : goal.first_body-at-requires
first_body-at-requires c = (formed _ c.requires.0.form).head.majors

pub loop-p-init : goal.loop-p-init
unfolding positions.refusal12
loop-p-init c = (c.first_body-at.ensures.0, refl, pass_start _ _, refl)

pub at-part-requires : goal.at-part-requires
at-part-requires c =
    let among : c.loop-p.p < parts_of c.args.d.now = omega (arith, c.loop-p-test.true, c.parts_of-p-end.ensures.0) in
    body_ready _ (formed _ c.requires.0.form).sizes _ _ among c.loop-p.invariant.0

pub judge_part-requires : goal.judge_part-requires
judge_part-requires c =
    let among : c.loop-p.p < parts_of c.args.d.now = omega (arith, c.loop-p-test.true, c.parts_of-p-end.ensures.0) in (
      rw (c.at-part.ensures.0, c.at-part.ensures.1) (part_ready c.args.d.now c.args.room.now c.loop-p.room c.loop-p.p c.at-part.result.body _ c.requires.0 c.loop-p.invariant.1
          c.at-part.ensures.2 among c.state_words-state.ensures),
      omega (arith, c.loop-p.invariant.3, c.requires.1),
    )

pub shape_of-room-in-Some : goal.shape_of-room-in-Some
shape_of-room-in-Some c =
    ap length (c.judge_part.ensures.room_unchanged ∙ c.loop-p.invariant.1)

pub shape_of-keys-in-Some : goal.shape_of-keys-in-Some
shape_of-keys-in-Some c =
    c.judge_part.auto.keys ∙ c.loop-p.invariant.3

pub returns-in-Some : goal.returns-in-Some
returns-in-Some c =
    let among : c.loop-p.p < parts_of c.args.d.now = omega (arith, c.loop-p-test.true, c.parts_of-p-end.ensures.0) in
    record { value = pass_fault _ _ _ _ c.loop-p.invariant.2 among _ (rw (c.at-part.ensures.0, c.at-part.ensures.1) at c.judge_part.ensures.value) _ c.in-Some.is; room_unchanged = c.judge_part.ensures.room_unchanged ∙ c.loop-p.invariant.1 }

pub loop-p-preserved : goal.loop-p-preserved
loop-p-preserved c =
    let among : c.loop-p.p < parts_of c.args.d.now = omega (arith, c.loop-p-test.true, c.parts_of-p-end.ensures.0) in (
      c.at-part.ensures.2.end,
      c.judge_part.ensures.room_unchanged ∙ c.loop-p.invariant.1,
      pass_next _ _ _ _ c.loop-p.invariant.2 among _ (rw (c.at-part.ensures.0, c.at-part.ensures.1) at c.judge_part.ensures.value) c.in_default.is,
      c.judge_part.auto.keys ∙ c.loop-p.invariant.3,
    )

pub shape_of-keys : goal.shape_of-keys
shape_of-keys c = c.loop-p.invariant.3

pub returns : goal.returns
returns c = record { value = pass_end _ _ _ _ c.loop-p.invariant.2 (omega (arith, c.parts_of-p-end.ensures.0)); room_unchanged = c.loop-p.invariant.1 }
