-- 32, a refusal, or none.
-- Assumes nothing.
use Rattle.std.proofs.Common.{◌≡◌, ◌≤◌, ◌<◌, Err, length, sym, ap, ◌∙◌, arith}
use mathlib.Core.Option.{none}
use Rattle.plan_record.specs.Form.{plan_room_words}
use Rattle.plan_refusals.specs.Refusals.{plan_refusal}
use Rattle.plan_checks.specs.Verdicts.{verdict_of}
use Rattle.words.proofs.TestLaws.{some_not_none}
use Rattle.plan_refusals.proofs.RefusalOrderLaws.{short_verdict, wide_verdict}
use Rattle.plan_checks.proofs.VerdictLaws.{went_on, never}
use Rattle.plan_checks.proofs.CheckedRoomLaws.{room_cleared, short_room, again_room, last_room, last_ready}
use Rattle.plan_checks.proofs.check_plan.Goals as goal

pub returns-then-room-room_words : goal.returns-then-room-room_words
returns-then-room-room_words c =
    let h : length c.args.room.now < plan_room_words c.args.plan.now = omega (arith, c.if-room-room_words.true, c.room_words.ensures.0) in
    let is = short_verdict c.args.plan.now (length c.args.room.now) h in
    record { value = ap Err c.nowhere.ensures ∙ ap verdict_of (sym is); room_after = short_room c.args.plan.now c.args.room.now h; plan_ready = λ e. absurd (some_not_none (sym is ∙ e)) }

pub check_all-requires : goal.check_all-requires
check_all-requires c =
    let wide : plan_room_words c.args.plan.now ≤ length c.args.room.now = omega (arith, c.if-room-room_words.false, c.room_words.ensures.0) in
    (room_cleared c.args.plan.now c.args.room.now _ wide c.clear.ensures, c.requires)

pub returns-in-Err : goal.returns-in-Err
returns-in-Err c =
    let h : plan_room_words c.args.plan.now ≤ length c.args.room.now = omega (arith, c.if-room-room_words.false, c.room_words.ensures.0) in
    let is = wide_verdict c.args.plan.now (length c.args.room.now) h in
    let not : plan_refusal c.args.plan.now ≡ none → ⊥ = never (plan_refusal c.args.plan.now) _ c.in-Err.ensures.value in
    record {
      value = c.in-Err.ensures.value ∙ ap verdict_of (sym is);
      room_after = again_room c.args.plan.now c.args.room.now h _ c.check_all.new.room _ c.clear.ensures c.check_all.auto.room c.clear-in-Err.ensures not;
      plan_ready = λ e. absurd (not (sym is ∙ e));
    }

pub returns-in-Ok : goal.returns-in-Ok
returns-in-Ok c =
    let h : plan_room_words c.args.plan.now ≤ length c.args.room.now = omega (arith, c.if-room-room_words.false, c.room_words.ensures.0) in
    let is = wide_verdict c.args.plan.now (length c.args.room.now) h in
    let accepted = went_on (plan_refusal c.args.plan.now) _ c.in-Ok.ensures.value in
    record {
      value = c.in-Ok.ensures.value ∙ ap verdict_of (sym is);
      room_after = last_room c.args.plan.now c.args.room.now h _ _ c.clear.ensures accepted (c.check_all.ensures.room_after accepted);
      plan_ready = λ e. last_ready c.args.plan.now c.args.room.now h _ _ c.clear.ensures accepted (c.check_all.ensures.room_after accepted);
    }
