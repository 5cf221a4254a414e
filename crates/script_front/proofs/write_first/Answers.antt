-- The entries are those of stage 0, and as small.
-- Assumes nothing.
use mathlib.Core.Path.{◌≡◌, sym, ◌∙◌}
use mathlib.Core.List.{◌++◌}
use Prim.Native.Nat.{◌*◌}
use native.Mathlib.Omega.{arith}
use lib.ListN.{drop}
use lib.Seq.{length-take-le, length_front}
use Rattle.plan_record.specs.Record.{slots_of}
use Rattle.script_front.proofs.FrontLaws.{some_stages, part_accepted, entries_first, made_front, made_small, put_front}
use Rattle.script_front.proofs.write_first.Goals as goal

pub slice_bounds-first_entries-end-2 : goal.slice_bounds-first_entries-end-2
slice_bounds-first_entries-end-2 c =
    sym (length-take-le c.args.n c.args.set.now c.requires.3.words)

pub slice_bounds-first_entries-end-4 : goal.slice_bounds-first_entries-end-4
slice_bounds-first_entries-end-4 c =
    sym (length-take-le (32 * c.args.part.now.body.lanes) c.args.list.now c.requires.3.slots)

pub first_entries-requires : goal.first_entries-requires
first_entries-requires c =
    let slots-are : 32 * c.args.part.now.body.lanes ≡ slots_of c.args.part.now.d.now = omega (arith, c.requires.0.body.lanes) in
    (some_stages _ _ _ c.requires.0, c.requires.1, c.requires.2, length-take-le (32 * c.args.part.now.body.lanes) c.args.list.now c.requires.3.slots ∙ slots-are)

pub slice_bounds-put_entries-end : goal.slice_bounds-put_entries-end
slice_bounds-put_entries-end c =
    omega (arith, c.requires.3.slots, length_front c.args.list.now c.first_entries.new.entries (32 * c.args.part.now.body.lanes) c.first_entries.auto.entries)

pub slice_bounds-put_entries-end-2 : goal.slice_bounds-put_entries-end-2
slice_bounds-put_entries-end-2 c =
    let slots-are : 32 * c.args.part.now.body.lanes ≡ slots_of c.args.part.now.d.now = omega (arith, c.requires.0.body.lanes) in
    sym (made_front c.args.part.now.d.now c.args.part.now.p (32 * c.args.part.now.body.lanes) (slots-are) c.args.list.now c.first_entries.new.entries c.first_entries.ensures.entries_after)

pub slice_bounds-put_entries-end-4 : goal.slice_bounds-put_entries-end-4
slice_bounds-put_entries-end-4 c =
    sym (length-take-le (32 * c.args.part.now.body.lanes) c.args.set.now c.requires.3.entries)

pub put_entries-requires : goal.put_entries-requires
put_entries-requires c =
    let slots-are : 32 * c.args.part.now.body.lanes ≡ slots_of c.args.part.now.d.now = omega (arith, c.requires.0.body.lanes) in
    let front = made_front c.args.part.now.d.now c.args.part.now.p (32 * c.args.part.now.body.lanes) (slots-are) c.args.list.now c.first_entries.new.entries c.first_entries.ensures.entries_after in
    let small = made_small c.args.part.now.d.now c.args.part.now.p (32 * c.args.part.now.body.lanes) (slots-are) c.args.list.now c.first_entries.new.entries c.first_entries.ensures.entries_after c.first_entries.ensures.by_index in
    (length-take-le (32 * c.args.part.now.body.lanes) c.args.set.now c.requires.3.entries ∙ sym front, λ i h. small i (omega (arith, front)))

pub slice_bounds-write_stage-end : goal.slice_bounds-write_stage-end
slice_bounds-write_stage-end c =
    omega (arith, c.requires.3.entries, length_front c.args.set.now c.put_entries.new.entries (32 * c.args.part.now.body.lanes) c.put_entries.auto.entries)

pub slice_bounds-write_stage-end-2 : goal.slice_bounds-write_stage-end-2
slice_bounds-write_stage-end-2 c =
    sym (length-take-le (32 * c.args.part.now.body.lanes) (c.put_entries.new.entries ++ drop (32 * c.args.part.now.body.lanes) c.args.set.now) (omega (arith, c.requires.3.entries, length_front c.args.set.now c.put_entries.new.entries (32 * c.args.part.now.body.lanes) c.put_entries.auto.entries)))

pub write_stage-requires : goal.write_stage-requires
write_stage-requires c =
    let slots-are : 32 * c.args.part.now.body.lanes ≡ slots_of c.args.part.now.d.now = omega (arith, c.requires.0.body.lanes) in
    let is = put_front c.args.part.now.d.now c.args.part.now.p (32 * c.args.part.now.body.lanes) (slots-are) c.args.list.now c.first_entries.new.entries c.first_entries.ensures.entries_after c.args.set.now c.put_entries.new.entries c.put_entries.ensures in
    (part_accepted _ _ _ c.requires.0, some_stages _ _ _ c.requires.0, entries_first c.args.part.now.d.now c.args.part.now.p _ is c.first_entries.ensures.by_index, omega (arith, c.requires.3.section, c.requires.0.body.lanes))

pub shape_of-list : goal.shape_of-list
shape_of-list c =
    length_front c.args.list.now c.first_entries.new.entries (32 * c.args.part.now.body.lanes) c.first_entries.auto.entries

pub shape_of-set : goal.shape_of-set
shape_of-set c =
    length_front c.args.set.now c.put_entries.new.entries (32 * c.args.part.now.body.lanes) c.put_entries.auto.entries
