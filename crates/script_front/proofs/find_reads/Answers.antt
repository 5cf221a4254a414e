-- The pins are in the first 32768 words of the room, the lanes in the rest.
-- Assumes nothing.
use mathlib.Core.Path.{sym, ◌∙◌}
use native.Mathlib.Omega.{arith}
use lib.ListN.{length}
use lib.Seq.{length-take-le}
use Rattle.plan_reads.proofs.CheckLaws.{set_front, set-size, set_in_form}
use Rattle.script_front.proofs.FrontLaws.{some_stages, lists_there, reads_planned, table_solvable, found_length, found_room}
use Rattle.script_front.proofs.find_reads.Goals as goal

pub slice_bounds-part_set-end-2 : goal.slice_bounds-part_set-end-2
slice_bounds-part_set-end-2 c =
    sym (length-take-le 32768 c.args.room.now (omega (arith, c.requires.2)))

pub part_set-n-requires : goal.part_set-n-requires
part_set-n-requires c =
    (some_stages _ _ _ c.requires.0, lists_there _ _ _ c.requires.0, reads_planned _ _ _ c.requires.0, c.requires.1, length-take-le 32768 c.args.room.now (omega (arith, c.requires.2)))

pub slice_bounds-search_set-end-2 : goal.slice_bounds-search_set-end-2
slice_bounds-search_set-end-2 c =
    set-size c.args.part.now.d.now c.args.part.now.p c.args.set.now _ _ c.part_set-n.ensures.value c.part_set-n.ensures.set_after c.requires.1.set_room

pub search_set-requires : goal.search_set-requires
search_set-requires c = (
  set_in_form c.args.part.now.d.now c.args.part.now.p c.args.set.now _ _ c.part_set-n.ensures.value c.part_set-n.ensures.set_after c.requires.1.set_room c.part_set-n.ensures.all_narrow,
  table_solvable c.args.part.now.d.now c.args.part.now.p c.args.part.now.body c.requires.0 c.args.room.now c.requires.2 _ c.part_set-n.ensures.pins_after (length c.args.keys.now) (length c.args.scratch.now) _ _ _ c.requires.1 c.part_set-n.auto.keys c.part_set-n.auto.scratch,
)

pub shape_of-room : goal.shape_of-room
shape_of-room c =
    found_length c.args.part.now.d.now c.args.part.now.p c.args.part.now.body c.requires.0 c.args.room.now c.requires.2 _ c.part_set-n.ensures.pins_after c.search_set.new.table c.search_set.auto.table

pub shape_of-keys : goal.shape_of-keys
shape_of-keys c =
    c.search_set.auto.keys ∙ c.part_set-n.auto.keys

pub shape_of-scratch : goal.shape_of-scratch
shape_of-scratch c =
    c.search_set.auto.scratch ∙ c.part_set-n.auto.scratch

pub shape_of-set : goal.shape_of-set
shape_of-set c =
    c.part_set-n.auto.set

pub returns : goal.returns
returns c =
    let front = set_front c.args.part.now.d.now c.args.part.now.p c.args.set.now _ _ c.part_set-n.ensures.value c.part_set-n.ensures.set_after c.requires.1.set_room in
    record {
      value = c.part_set-n.ensures.value;
      found_room = found_room c.args.part.now.d.now c.args.part.now.p c.args.part.now.body c.requires.0 c.args.room.now c.requires.2 _ c.part_set-n.ensures.pins_after c.search_set.new.table c.search_set.auto.table _ front c.search_set.ensures.table_after;
      set_after = c.part_set-n.ensures.set_after;
      all_narrow = c.part_set-n.ensures.all_narrow;
    }
