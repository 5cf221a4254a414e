-- The read section and the first stage are written before the rest. No number on the way is above the length of the result.
-- Assumes nothing.
-- ---- from the places back to what was called and written
use mathlib.Core.Path.{◌≡◌, sym, ◌∙◌}
use Prim.Native.Nat.{◌+◌, ◌*◌, ◌-◌, ◌≤◌}
use native.Mathlib.Omega.{arith}
use borrow.Rule.Slice.PartMut.{mid_len, same_len_mid}
use lib.ListN.{length}
use lib.Seq.{length-take-le, length_front}
use Rattle.plan_record.specs.Record.{slots_of}
use Rattle.script_front.proofs.FrontLaws.{part_accepted}
use Rattle.script_part.proofs.BuildLaws.{front_inside, script_room}
use Rattle.script_part.proofs.write_words.Goals as goal

-- ---- the needs
pub overflow_mul-to : goal.overflow_mul-to
overflow_mul-to c =
    let inside : c.args.part.now.body.lanes + 2 * (c.args.part.now.body.lanes * c.args.x.rounds) + 20 * c.args.part.now.body.lanes ≤ length c.args.out.now = front_inside c.args.part.now.d.now c.args.part.now.p c.args.part.now.body c.requires.0 c.args.x c.requires.1 c.args.out.now c.requires.3 in
    omega (arith, inside)

pub overflow_mul-to-2 : goal.overflow_mul-to-2
overflow_mul-to-2 c =
    let inside : c.args.part.now.body.lanes + 2 * (c.args.part.now.body.lanes * c.args.x.rounds) + 20 * c.args.part.now.body.lanes ≤ length c.args.out.now = front_inside c.args.part.now.d.now c.args.part.now.p c.args.part.now.body c.requires.0 c.args.x c.requires.1 c.args.out.now c.requires.3 in
    omega (arith, inside)

pub overflow_add-to : goal.overflow_add-to
overflow_add-to c =
    let inside : c.args.part.now.body.lanes + 2 * (c.args.part.now.body.lanes * c.args.x.rounds) + 20 * c.args.part.now.body.lanes ≤ length c.args.out.now = front_inside c.args.part.now.d.now c.args.part.now.p c.args.part.now.body c.requires.0 c.args.x c.requires.1 c.args.out.now c.requires.3 in
    omega (arith, inside)

pub overflow_mul-to-3 : goal.overflow_mul-to-3
overflow_mul-to-3 c =
    let inside : c.args.part.now.body.lanes + 2 * (c.args.part.now.body.lanes * c.args.x.rounds) + 20 * c.args.part.now.body.lanes ≤ length c.args.out.now = front_inside c.args.part.now.d.now c.args.part.now.p c.args.part.now.body c.requires.0 c.args.x c.requires.1 c.args.out.now c.requires.3 in
    omega (arith, inside)

pub overflow_add-to-2 : goal.overflow_add-to-2
overflow_add-to-2 c =
    let inside : c.args.part.now.body.lanes + 2 * (c.args.part.now.body.lanes * c.args.x.rounds) + 20 * c.args.part.now.body.lanes ≤ length c.args.out.now = front_inside c.args.part.now.d.now c.args.part.now.p c.args.part.now.body c.requires.0 c.args.x c.requires.1 c.args.out.now c.requires.3 in
    omega (arith, inside)

pub offset_bounds-out-lanes : goal.offset_bounds-out-lanes
offset_bounds-out-lanes c =
    let inside : c.args.part.now.body.lanes + 2 * (c.args.part.now.body.lanes * c.args.x.rounds) + 20 * c.args.part.now.body.lanes ≤ length c.args.out.now = front_inside c.args.part.now.d.now c.args.part.now.p c.args.part.now.body c.requires.0 c.args.x c.requires.1 c.args.out.now c.requires.3 in
    omega (arith, inside)

pub slice_bounds-write_front-count : goal.slice_bounds-write_front-count
slice_bounds-write_front-count c =
    let inside : c.args.part.now.body.lanes + 2 * (c.args.part.now.body.lanes * c.args.x.rounds) + 20 * c.args.part.now.body.lanes ≤ length c.args.out.now = front_inside c.args.part.now.d.now c.args.part.now.p c.args.part.now.body c.requires.0 c.args.x c.requires.1 c.args.out.now c.requires.3 in
    omega (arith, inside)

pub slice_bounds-write_front-end : goal.slice_bounds-write_front-end
slice_bounds-write_front-end c =
    let inside : c.args.part.now.body.lanes + 2 * (c.args.part.now.body.lanes * c.args.x.rounds) + 20 * c.args.part.now.body.lanes ≤ length c.args.out.now = front_inside c.args.part.now.d.now c.args.part.now.p c.args.part.now.body c.requires.0 c.args.x c.requires.1 c.args.out.now c.requires.3 in
    omega (arith, inside)

pub write_front-requires : goal.write_front-requires
write_front-requires c =
    let inside : c.args.part.now.body.lanes + 2 * (c.args.part.now.body.lanes * c.args.x.rounds) + 20 * c.args.part.now.body.lanes ≤ length c.args.out.now = front_inside c.args.part.now.d.now c.args.part.now.p c.args.part.now.body c.requires.0 c.args.x c.requires.1 c.args.out.now c.requires.3 in
    let written = mid_len c.args.part.now.body.lanes (c.args.part.now.body.lanes + 2 * (c.args.part.now.body.lanes * c.args.x.rounds) + 20 * c.args.part.now.body.lanes) c.args.out.now (inside) in
    (c.requires.0, c.requires.1.rounds, record { found = c.requires.2; sections = omega (arith, written); reads = c.requires.4 })

pub slice_bounds-write_script-end-2 : goal.slice_bounds-write_script-end-2
slice_bounds-write_script-end-2 c =
    sym (length-take-le 32768 c.write_front.new.room (omega (arith, c.write_front.auto.room, c.requires.2)))

pub slice_bounds-write_script-end-3 : goal.slice_bounds-write_script-end-3
slice_bounds-write_script-end-3 c =
    let slots-in : 32 * c.args.part.now.body.lanes ≤ length c.write_front.new.set = omega (arith, c.write_front.auto.set, c.requires.4.set_room, c.requires.0.body.laid.lanes) in
    slots-in

pub slice_bounds-write_script-end-4 : goal.slice_bounds-write_script-end-4
slice_bounds-write_script-end-4 c =
    let slots-in : 32 * c.args.part.now.body.lanes ≤ length c.write_front.new.set = omega (arith, c.write_front.auto.set, c.requires.4.set_room, c.requires.0.body.laid.lanes) in
    sym (length-take-le (32 * c.args.part.now.body.lanes) c.write_front.new.set (slots-in))

pub write_script-requires : goal.write_script-requires
write_script-requires c =
    let slots-in : 32 * c.args.part.now.body.lanes ≤ length c.write_front.new.set = omega (arith, c.write_front.auto.set, c.requires.4.set_room, c.requires.0.body.laid.lanes) in
    let lent = length-take-le 32768 c.write_front.new.room (omega (arith, c.write_front.auto.room, c.requires.2)) in
    let slots : 32 * c.args.part.now.body.lanes ≡ slots_of c.args.part.now.d.now = omega (arith, c.requires.0.body.lanes) in (
      part_accepted _ _ _ c.requires.0,
      script_room c.args.part.now.d.now c.args.part.now.p c.args.part.now.body c.requires.0 c.args.x c.requires.1 c.args.out.now c.requires.3 _ c.write_front.new.out c.write_front.ensures.out_after (omega (arith, lent)) c.write_front.ensures.rounds_bound,
      length-take-le (32 * c.args.part.now.body.lanes) c.write_front.new.set (slots-in) ∙ slots,
    )

pub shape_of-room : goal.shape_of-room
shape_of-room c =
    length_front c.write_front.new.room c.write_script.new.table 32768 c.write_script.auto.table ∙ c.write_front.auto.room

pub shape_of-out : goal.shape_of-out
shape_of-out c =
    let long = same_len_mid c.args.part.now.body.lanes (c.args.part.now.body.lanes + 2 * (c.args.part.now.body.lanes * c.args.x.rounds) + 20 * c.args.part.now.body.lanes - c.args.part.now.body.lanes) c.args.out.now c.write_front.new.out c.write_front.auto.out in
    c.write_script.auto.out ∙ long

pub shape_of-keys : goal.shape_of-keys
shape_of-keys c = c.write_front.auto.keys

pub shape_of-scratch : goal.shape_of-scratch
shape_of-scratch c = c.write_front.auto.scratch

pub shape_of-set : goal.shape_of-set
shape_of-set c =
    length_front c.write_front.new.set c.write_script.new.entries (32 * c.args.part.now.body.lanes) c.write_script.auto.entries ∙ c.write_front.auto.set
