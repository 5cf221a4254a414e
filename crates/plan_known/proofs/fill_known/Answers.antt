-- `plan_known::fill_known` meets its contract: one law for a part of the plan, one for a part past it.
-- Assumes nothing.
use native.Mathlib.Omega.{arith}
use Rattle.plan_record.proofs.PlanFormLaws.{formed}
use Rattle.plan_known.proofs.KnownLaws.{fill_read, fill_past}
use Rattle.plan_known.proofs.fill_known.Goals as goal

pub parts_of-requires : goal.parts_of-requires
parts_of-requires c = (formed _ c.requires.0).head.majors

pub fill_part-requires : goal.fill_part-requires
fill_part-requires c =
    let body = rw (c.part_of.ensures.0, c.part_of.ensures.1) at c.part_of.result.of in (
      rw c.part_of.ensures.0 c.requires.0,
      omega (arith, body.stages, ((formed _ c.requires.0).part c.args.p (omega (arith, c.if-p-parts_of.true, c.parts_of.ensures.0))).some_stages),
      c.requires.1,
    )

pub returns-then-p-parts_of : goal.returns-then-p-parts_of
returns-then-p-parts_of c =
    fill_read c.args.d.now c.args.p c.args.old.now c.args.new.now _ (omega (arith, c.if-p-parts_of.true, c.parts_of.ensures.0)) (rw (c.part_of.ensures.0, c.part_of.ensures.1) at c.fill_part.ensures)

pub returns-else-p-parts_of : goal.returns-else-p-parts_of
returns-else-p-parts_of c =
    fill_past c.args.d.now c.args.p c.args.old.now c.args.new.now c.args.room.now (omega (arith, c.if-p-parts_of.false, c.parts_of.ensures.0)) c.requires.1
