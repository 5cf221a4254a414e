use mathlib.Core.Path.{refl, sym, ◌∙◌}
use Prim.Native.Nat.{◌<◌}
use native.Mathlib.Omega.{arith}
use Rattle.plan_record.specs.Record.{parts_of}
use Rattle.plan_record.proofs.PlanFormLaws.{formed, body_ready}
use Rattle.plan_winners.proofs.WinnerLaws.{listed}
use Rattle.plan_reads.proofs.ReadRowLaws.{read_none}
use Rattle.plan_reads.proofs.FirstEntryLaws.{all_planned}
use Rattle.plan_reads.proofs.CheckLaws.{passing_start, passing_place, passing_fault, passing_on, none_early, passed_told, rows_long, rows_clear, row_inside, rows_more, rows_fault, rows_all}
use Rattle.plan_reads.proofs.check.check_reads.Goals as goal

pub parts_of-p-end-requires : goal.parts_of-p-end-requires
parts_of-p-end-requires c = (formed _ c.requires.0.form).head.majors

pub first_body-at-requires : goal.first_body-at-requires
first_body-at-requires c = (formed _ c.requires.0.form).head.majors

pub loop-p-init : goal.loop-p-init
loop-p-init c = (passing_start _ _ c.first_body-at.ensures.0, sym (read_none _ _), refl, refl, refl)

pub at-part-requires : goal.at-part-requires
at-part-requires c =
    body_ready _ (formed _ c.requires.0.form).sizes _ _ (omega (arith, c.loop-p-test.true, c.parts_of-p-end.ensures.0)) c.loop-p.invariant.0.place

pub check_part-reads-requires : goal.check_part-reads-requires
check_part-reads-requires c =
    let among : c.loop-p.p < parts_of c.args.d.now = omega (arith, c.loop-p-test.true, c.parts_of-p-end.ensures.0) in (
      omega (arith, c.at-part.ensures.2.stages, ((formed _ c.requires.0.form).part _ among).some_stages),
      rw c.at-part.ensures.0 (listed _ c.requires.0.form),
      rw (c.at-part.ensures.0, c.at-part.ensures.1) (all_planned _ c.requires.0.planned _ among),
      record { keys-room = omega (arith, c.loop-p.invariant.2, c.requires.1.keys-room); scratch-room = omega (arith, c.loop-p.invariant.3, c.requires.1.scratch-room); set_room = omega (arith, c.loop-p.invariant.4, c.requires.1.set_room) },
      rw c.at-part.ensures.0 (rows_clear c.args.d.now c.args.room.now _ c.loop-p.p c.loop-p.invariant.1 c.requires.0.cleared),
    )

pub shape_of-room-then-is_some : goal.shape_of-room-then-is_some
shape_of-room-then-is_some c =
    c.check_part-reads.auto.room ∙ rows_long c.args.d.now c.args.room.now _ c.loop-p.p c.loop-p.invariant.1

pub shape_of-keys-then-is_some : goal.shape_of-keys-then-is_some
shape_of-keys-then-is_some c =
    c.check_part-reads.auto.keys ∙ c.loop-p.invariant.2

pub shape_of-scratch-then-is_some : goal.shape_of-scratch-then-is_some
shape_of-scratch-then-is_some c =
    c.check_part-reads.auto.scratch ∙ c.loop-p.invariant.3

pub shape_of-set-then-is_some : goal.shape_of-set-then-is_some
shape_of-set-then-is_some c =
    c.check_part-reads.auto.set ∙ c.loop-p.invariant.4

pub returns-then-is_some : goal.returns-then-is_some
returns-then-is_some c =
    let among : c.loop-p.p < parts_of c.args.d.now = omega (arith, c.loop-p-test.true, c.parts_of-p-end.ensures.0) in
    let reads = rw (c.at-part.ensures.0, c.at-part.ensures.1) at c.check_part-reads.ensures.value in
    let refused = sym c.is_some.ensures ∙ c.if-is_some.true in
    let there = passing_place c.args.d.now c.loop-p.at c.loop-p.found c.loop-p.p among c.loop-p.invariant.0 _ reads _ c.refused_at.ensures refused in
    record {
      value = passing_fault c.args.d.now c.loop-p.at c.loop-p.found c.loop-p.p among c.loop-p.invariant.0 _ reads _ c.refused_at.ensures refused;
      room_after = rows_fault c.args.d.now c.args.room.now _ c.loop-p.p _ (c.check_part-reads.ensures.room_unchanged ∙ c.loop-p.invariant.1) there.1;
    }

pub put_reads-requires : goal.put_reads-requires
put_reads-requires c =
    let among : c.loop-p.p < parts_of c.args.d.now = omega (arith, c.loop-p-test.true, c.parts_of-p-end.ensures.0) in (
      omega (arith, among, (formed _ c.requires.0.form).sizes.headed.parts),
      row_inside c.args.d.now c.args.room.now _ c.loop-p.p (c.check_part-reads.ensures.room_unchanged ∙ c.loop-p.invariant.1) c.requires.0.cleared among,
    )

pub loop-p-preserved : goal.loop-p-preserved
loop-p-preserved c =
    let among : c.loop-p.p < parts_of c.args.d.now = omega (arith, c.loop-p-test.true, c.parts_of-p-end.ensures.0) in
    let reads = rw (c.at-part.ensures.0, c.at-part.ensures.1) at c.check_part-reads.ensures.value in (
      passing_on c.args.d.now c.loop-p.at c.loop-p.found c.loop-p.p among c.loop-p.invariant.0 _ reads _ c.refused_at.ensures
          (sym c.is_some.ensures ∙ c.if-is_some.false) _ _ c.firsts_after-found.ensures c.at-part.ensures.2.end,
      c.put_reads.ensures ∙ rows_more c.args.d.now c.args.room.now _ c.loop-p.p (c.check_part-reads.ensures.room_unchanged ∙ c.loop-p.invariant.1) _ reads,
      c.check_part-reads.auto.keys ∙ c.loop-p.invariant.2,
      c.check_part-reads.auto.scratch ∙ c.loop-p.invariant.3,
      c.check_part-reads.auto.set ∙ c.loop-p.invariant.4,
    )

pub shape_of-room : goal.shape_of-room
shape_of-room c =
    rows_long c.args.d.now c.args.room.now _ c.loop-p.p c.loop-p.invariant.1

pub shape_of-keys : goal.shape_of-keys
shape_of-keys c = c.loop-p.invariant.2

pub shape_of-scratch : goal.shape_of-scratch
shape_of-scratch c = c.loop-p.invariant.3

pub shape_of-set : goal.shape_of-set
shape_of-set c = c.loop-p.invariant.4

pub returns : goal.returns
returns c =
    record {
      value = c.tell_firsts.ensures ∙ passed_told c.args.d.now c.loop-p.at c.loop-p.found c.loop-p.p (omega (arith, c.parts_of-p-end.ensures.0)) c.loop-p.invariant.0;
      room_after =
          rows_all c.args.d.now c.args.room.now _ c.loop-p.p c.loop-p.invariant.1 (omega (arith, c.parts_of-p-end.ensures.0))
          (none_early c.args.d.now c.loop-p.at c.loop-p.found c.loop-p.p (omega (arith, c.parts_of-p-end.ensures.0)) c.loop-p.invariant.0);
    }
