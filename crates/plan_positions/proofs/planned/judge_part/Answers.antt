-- The room's first words hold the table of the part while its pins are judged, and are cleared again; the part table stays.
-- Assumes nothing.
use mathlib.Core.Path.{refl, sym, ap}
use native.Mathlib.Omega.{arith}
use lib.ListN.{length}
use lib.Seq.{length-take-le}
use Rattle.plan_record.proofs.PlanFormLaws.{formed}
use Rattle.plan_winners.proofs.WinnerLaws.{listed}
use Rattle.plan_positions.proofs.PlannedLaws.{part_stages, part_wide, part_front, part_slots, part_cleared, list_front, list_size, list_small}
use Rattle.plan_positions.proofs.planned.judge_part.Goals as goal

pub slice_bounds-list_planned-end-2 : goal.slice_bounds-list_planned-end-2
slice_bounds-list_planned-end-2 c =
    sym (length-take-le 32768 c.args.room.now (part_wide c.args.part.now.d.now c.args.part.now.p c.args.part.now.body c.args.room.now c.args.state c.requires.0))

pub list_planned-m-requires : goal.list_planned-m-requires
list_planned-m-requires c =
    let wide = part_wide c.args.part.now.d.now c.args.part.now.p c.args.part.now.body c.args.room.now c.args.state c.requires.0 in
    (listed c.args.part.now.d.now c.requires.0.plan.form, part_stages c.args.part.now.d.now c.args.part.now.p c.args.part.now.body c.args.room.now c.args.state c.requires.0, omega (arith, length-take-le 32768 c.args.room.now wide), c.requires.1)

pub parts_earlier-requires : goal.parts_earlier-requires
parts_earlier-requires c =
    (formed _ c.requires.0.plan.form).head.majors

pub slice_bounds-bad_pin-end-2 : goal.slice_bounds-bad_pin-end-2
slice_bounds-bad_pin-end-2 c =
    list_size c.args.part.now.d.now c.args.part.now.p c.args.keys.now _ _ c.requires.1 c.list_planned-m.ensures.value c.list_planned-m.ensures.list_after

pub bad_pin-found-requires : goal.bad_pin-found-requires
bad_pin-found-requires c = (
  part_slots c.args.part.now.d.now c.args.part.now.p c.args.part.now.body c.args.room.now c.args.state c.requires.0 _ _ c.list_planned-m.ensures.table_after refl _ c.parts_earlier.ensures,
  list_front c.args.part.now.d.now c.args.part.now.p c.args.keys.now _ _ c.requires.1 c.list_planned-m.ensures.value c.list_planned-m.ensures.list_after,
  list_small c.args.part.now.d.now c.args.part.now.p c.args.keys.now _ _ c.requires.1 c.list_planned-m.ensures.value c.list_planned-m.ensures.list_after c.list_planned-m.ensures.all_pins,
)

pub slice_bounds-clear-end-2 : goal.slice_bounds-clear-end-2
slice_bounds-clear-end-2 c =
    part_front c.args.part.now.d.now c.args.part.now.p c.args.part.now.body c.args.room.now c.args.state c.requires.0 _ _ c.list_planned-m.ensures.table_after refl

pub shape_of-room : goal.shape_of-room
shape_of-room c =
    ap length (part_cleared c.args.part.now.d.now c.args.part.now.p c.args.part.now.body c.args.room.now c.args.state c.requires.0 _ _ c.list_planned-m.ensures.table_after refl _ c.clear.ensures)

pub returns : goal.returns
returns c =
    record { value = c.bad_pin-found.ensures; room_unchanged = part_cleared c.args.part.now.d.now c.args.part.now.p c.args.part.now.body c.args.room.now c.args.state c.requires.0 _ _ c.list_planned-m.ensures.table_after refl _ c.clear.ensures }
