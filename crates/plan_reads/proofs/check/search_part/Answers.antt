-- `plan_reads::check::search_part` meets its contract: the front of `set` is the part's read set.
-- Assumes nothing.
use mathlib.Core.Path.{sym, ◌∙◌}
use Prim.Native.Nat.{◌*◌}
use native.Mathlib.Omega.{arith}
use lib.ListN.{length}
use lib.Seq.{length-take-le}
use Rattle.plan_reads.proofs.SearchedLaws.{pins_length}
use Rattle.plan_reads.proofs.CheckLaws.{set-size, set_in_form, set_reads, part_solvable}
use Rattle.plan_reads.proofs.check.search_part.Goals as goal

pub slice_bounds-search_set-end-2 : goal.slice_bounds-search_set-end-2
slice_bounds-search_set-end-2 c =
    set-size c.args.part.now.d.now c.args.part.now.p c.args.set.now _ _ c.part_set-n.ensures.value c.part_set-n.ensures.set_after c.requires.3.set_room

pub slice_bounds-search_set-end-4 : goal.slice_bounds-search_set-end-4
slice_bounds-search_set-end-4 c =
    sym (length-take-le (32 * c.args.part.now.body.lanes) c.part_set-n.new.pins (omega (arith, pins_length c.args.part.now.d.now c.args.part.now.p c.args.room.now _ c.part_set-n.ensures.pins_after, c.requires.4, c.args.part.now.of.laid.lanes)))

pub search_set-requires : goal.search_set-requires
search_set-requires c =
    let n = pins_length c.args.part.now.d.now c.args.part.now.p c.args.room.now _ c.part_set-n.ensures.pins_after in (
      set_in_form c.args.part.now.d.now c.args.part.now.p c.args.set.now _ _ c.part_set-n.ensures.value c.part_set-n.ensures.set_after c.requires.3.set_room c.part_set-n.ensures.all_narrow,
      part_solvable c.args.part.now.body.lanes c.args.part.now.of.laid.some_lanes c.args.part.now.of.laid.lanes c.part_set-n.new.pins (length c.args.keys.now) (length c.args.scratch.now) _ _ _ (n ∙ c.requires.4) c.requires.3 c.part_set-n.auto.keys c.part_set-n.auto.scratch,
    )

pub returns : goal.returns
returns c =
    set_reads c.args.part.now.d.now c.args.part.now.p c.args.set.now _ _ c.part_set-n.ensures.value c.part_set-n.ensures.set_after c.requires.3.set_room c.args.part.now.body.lanes c.args.part.now.of.lanes _ c.search_set.ensures.value
