use mathlib.Core.Path.{◌≡◌, refl, ap, sym, ◌∙◌}
use Prim.Native.Nat.{ℕ, ◌<◌}
use native.Mathlib.Omega.{arith}
use lib.ListN.{length}
use Rattle.plan_record.specs.Record.{parts_of}
use Rattle.plan_record.proofs.PlanFormLaws.{formed, body_ready}
use mathlib.Core.List.{List}
use Rattle.plan_blocks.specs.TableFill.{count_row, count_rows, counted_room}
use Rattle.plan_table.proofs.PartTableLaws.{count_long}
use Rattle.plan_table.proofs.AllPartsLaws.{majors_few, row_ready, count_rows_none, count_more}
use Rattle.plan_table.proofs.table.fill_counts.Goals as goal

pub parts_of-p-end-requires : goal.parts_of-p-end-requires
parts_of-p-end-requires c = majors_few _ c.requires.0.ready.form

pub first_body-at-requires : goal.first_body-at-requires
first_body-at-requires c = majors_few _ c.requires.0.ready.form

pub loop-p-init : goal.loop-p-init
loop-p-init c = (c.first_body-at.ensures.0, sym (count_rows_none _ _), refl, refl)

pub at-part-requires : goal.at-part-requires
at-part-requires c =
    let u : c.loop-p.p < parts_of c.args.d.now = omega (arith, c.parts_of-p-end.ensures.0) in
    body_ready _ (formed _ c.requires.0.ready.form).sizes c.loop-p.p c.loop-p.at u c.loop-p.invariant.0

pub fill_row-requires : goal.fill_row-requires
fill_row-requires c =
    let u : c.loop-p.p < parts_of c.args.d.now = omega (arith, c.parts_of-p-end.ensures.0) in (
      rw (c.at-part.ensures.0, c.at-part.ensures.1) (row_ready _ c.args.room.now c.loop-p.room c.loop-p.p _ c.requires.0 c.loop-p.invariant.1 u c.at-part.ensures.2),
      omega (arith, c.loop-p.invariant.2, c.requires.1),
      omega (arith, c.loop-p.invariant.3, c.requires.2),
    )

pub loop-p-preserved : goal.loop-p-preserved
loop-p-preserved c = (
  c.at-part.ensures.2.end,
  (rw (c.at-part.ensures.0, c.at-part.ensures.1) at c.fill_row.ensures) ∙ ap (λ (r : List ℕ). count_row c.args.d.now r c.loop-p.p) c.loop-p.invariant.1 ∙ sym (count_more c.args.d.now c.args.room.now c.loop-p.p),
  c.fill_row.auto.keys ∙ c.loop-p.invariant.2,
  c.fill_row.auto.scratch ∙ c.loop-p.invariant.3,
)

pub shape_of-room : goal.shape_of-room
shape_of-room c = ap length c.loop-p.invariant.1 ∙ count_long _ _ _

pub shape_of-keys : goal.shape_of-keys
shape_of-keys c = c.loop-p.invariant.2

pub shape_of-scratch : goal.shape_of-scratch
shape_of-scratch c = c.loop-p.invariant.3

pub returns : goal.returns
unfolding counted_room
returns c =
    let e : c.loop-p.p ≡ parts_of c.args.d.now = omega (arith, c.parts_of-p-end.ensures.0) in
    c.loop-p.invariant.1 ∙ ap (λ (n : ℕ). count_rows c.args.d.now c.args.room.now n) e
