-- The lanes in the room are the part's; its two sections follow one another.
-- Assumes nothing.
-- ---- from the places back to what was called, found and written
use mathlib.Core.Path.{sym, ap, ap₂, ◌∙◌}
use mathlib.Core.List.{◌++◌}
use Prim.Native.Nat.{◌*◌, ◌≤◌}
use native.Mathlib.Omega.{arith}
use lib.ListN.{length}
use lib.Seq.{length-take-le}
use Rattle.reads.specs.ReadSection.{read_section}
use Rattle.plan_reads.proofs.CheckLaws.{set_front}
use Rattle.script.proofs.PutMidLaws.{two_parts}
use Rattle.script_front.proofs.FrontLaws.{ReadsFound, set_long, lanes_are, pins_won_there, rounds_few, round_words_lem, reads_room, pairs_numbered, front_length, first_length}
use Rattle.script_front.proofs.write_front.Goals as goal

-- ---- the needs
pub find_reads-n-requires : goal.find_reads-n-requires
find_reads-n-requires c =
    (c.requires.0, c.requires.2.reads, c.requires.2.found)

pub overflow_mul-reads : goal.overflow_mul-reads
overflow_mul-reads c =
    let reads_found : ReadsFound c.args.part.now.d.now c.args.part.now.p c.args.part.now.body c.find_reads-n.new.room c.find_reads-n.new.set c.find_reads-n.result = record {
      part = c.requires.0;
      narrow = c.find_reads-n.ensures.all_narrow;
      found = c.find_reads-n.ensures.found_room;
      wide = c.find_reads-n.auto.room ∙ c.requires.2.found;
      count = c.find_reads-n.ensures.value.0;
      few = c.find_reads-n.ensures.value.1;
      front = set_front c.args.part.now.d.now c.args.part.now.p c.args.set.now _ _ c.find_reads-n.ensures.value c.find_reads-n.ensures.set_after c.requires.2.reads.set_room;
    } in
    let words-few : c.args.part.now.body.lanes * c.args.rounds ≤ 8192 = round_words_lem (reads_found) _ c.requires.1 in
    omega (arith, words-few)

pub overflow_mul-reads-2 : goal.overflow_mul-reads-2
overflow_mul-reads-2 c =
    let reads_found : ReadsFound c.args.part.now.d.now c.args.part.now.p c.args.part.now.body c.find_reads-n.new.room c.find_reads-n.new.set c.find_reads-n.result = record {
      part = c.requires.0;
      narrow = c.find_reads-n.ensures.all_narrow;
      found = c.find_reads-n.ensures.found_room;
      wide = c.find_reads-n.auto.room ∙ c.requires.2.found;
      count = c.find_reads-n.ensures.value.0;
      few = c.find_reads-n.ensures.value.1;
      front = set_front c.args.part.now.d.now c.args.part.now.p c.args.set.now _ _ c.find_reads-n.ensures.value c.find_reads-n.ensures.set_after c.requires.2.reads.set_room;
    } in
    let words-few : c.args.part.now.body.lanes * c.args.rounds ≤ 8192 = round_words_lem (reads_found) _ c.requires.1 in
    omega (arith, words-few)

pub slice_bounds-write_reads-end-2 : goal.slice_bounds-write_reads-end-2
slice_bounds-write_reads-end-2 c =
    let reads_found : ReadsFound c.args.part.now.d.now c.args.part.now.p c.args.part.now.body c.find_reads-n.new.room c.find_reads-n.new.set c.find_reads-n.result = record {
      part = c.requires.0;
      narrow = c.find_reads-n.ensures.all_narrow;
      found = c.find_reads-n.ensures.found_room;
      wide = c.find_reads-n.auto.room ∙ c.requires.2.found;
      count = c.find_reads-n.ensures.value.0;
      few = c.find_reads-n.ensures.value.1;
      front = set_front c.args.part.now.d.now c.args.part.now.p c.args.set.now _ _ c.find_reads-n.ensures.value c.find_reads-n.ensures.set_after c.requires.2.reads.set_room;
    } in
    set_long (reads_found)

pub slice_bounds-write_reads-end-5 : goal.slice_bounds-write_reads-end-5
slice_bounds-write_reads-end-5 c =
    sym (length-take-le (2 * (c.args.part.now.body.lanes * c.args.rounds)) c.args.out.now (omega (arith, c.requires.2.sections)))

pub write_reads-requires : goal.write_reads-requires
write_reads-requires c =
    let reads_found : ReadsFound c.args.part.now.d.now c.args.part.now.p c.args.part.now.body c.find_reads-n.new.room c.find_reads-n.new.set c.find_reads-n.result = record {
      part = c.requires.0;
      narrow = c.find_reads-n.ensures.all_narrow;
      found = c.find_reads-n.ensures.found_room;
      wide = c.find_reads-n.auto.room ∙ c.requires.2.found;
      count = c.find_reads-n.ensures.value.0;
      few = c.find_reads-n.ensures.value.1;
      front = set_front c.args.part.now.d.now c.args.part.now.p c.args.set.now _ _ c.find_reads-n.ensures.value c.find_reads-n.ensures.set_after c.requires.2.reads.set_room;
    } in
    let pairs-in : 8192 ≤ length c.find_reads-n.new.keys = omega (arith, c.find_reads-n.auto.keys, c.requires.2.reads.keys-room) in
    reads_room (reads_found) c.args.rounds c.requires.1 c.find_reads-n.new.keys c.args.out.now (pairs-in) c.requires.2.sections

pub slice_bounds-write_first-end-2 : goal.slice_bounds-write_first-end-2
slice_bounds-write_first-end-2 c =
    let reads_found : ReadsFound c.args.part.now.d.now c.args.part.now.p c.args.part.now.body c.find_reads-n.new.room c.find_reads-n.new.set c.find_reads-n.result = record {
      part = c.requires.0;
      narrow = c.find_reads-n.ensures.all_narrow;
      found = c.find_reads-n.ensures.found_room;
      wide = c.find_reads-n.auto.room ∙ c.requires.2.found;
      count = c.find_reads-n.ensures.value.0;
      few = c.find_reads-n.ensures.value.1;
      front = set_front c.args.part.now.d.now c.args.part.now.p c.args.set.now _ _ c.find_reads-n.ensures.value c.find_reads-n.ensures.set_after c.requires.2.reads.set_room;
    } in
    sym (length-take-le 32768 c.find_reads-n.new.room (omega (arith, (reads_found).wide)))

pub offset_bounds-out-reads : goal.offset_bounds-out-reads
offset_bounds-out-reads c =
    let reads_found : ReadsFound c.args.part.now.d.now c.args.part.now.p c.args.part.now.body c.find_reads-n.new.room c.find_reads-n.new.set c.find_reads-n.result = record {
      part = c.requires.0;
      narrow = c.find_reads-n.ensures.all_narrow;
      found = c.find_reads-n.ensures.found_room;
      wide = c.find_reads-n.auto.room ∙ c.requires.2.found;
      count = c.find_reads-n.ensures.value.0;
      few = c.find_reads-n.ensures.value.1;
      front = set_front c.args.part.now.d.now c.args.part.now.p c.args.set.now _ _ c.find_reads-n.ensures.value c.find_reads-n.ensures.set_after c.requires.2.reads.set_room;
    } in
    let words-few : c.args.part.now.body.lanes * c.args.rounds ≤ 8192 = round_words_lem (reads_found) _ c.requires.1 in
    omega (arith, words-few)

pub slice_bounds-write_first-count : goal.slice_bounds-write_first-count
slice_bounds-write_first-count c =
    omega (arith, front_length (2 * (c.args.part.now.body.lanes * c.args.rounds)) (20 * c.args.part.now.body.lanes) c.args.out.now c.requires.2.sections c.write_reads.new.out c.write_reads.auto.out)

pub slice_bounds-write_first-start : goal.slice_bounds-write_first-start
slice_bounds-write_first-start c =
    omega (arith, front_length (2 * (c.args.part.now.body.lanes * c.args.rounds)) (20 * c.args.part.now.body.lanes) c.args.out.now c.requires.2.sections c.write_reads.new.out c.write_reads.auto.out)

pub write_first-requires : goal.write_first-requires
write_first-requires c =
    let reads_found : ReadsFound c.args.part.now.d.now c.args.part.now.p c.args.part.now.body c.find_reads-n.new.room c.find_reads-n.new.set c.find_reads-n.result = record {
      part = c.requires.0;
      narrow = c.find_reads-n.ensures.all_narrow;
      found = c.find_reads-n.ensures.found_room;
      wide = c.find_reads-n.auto.room ∙ c.requires.2.found;
      count = c.find_reads-n.ensures.value.0;
      few = c.find_reads-n.ensures.value.1;
      front = set_front c.args.part.now.d.now c.args.part.now.p c.args.set.now _ _ c.find_reads-n.ensures.value c.find_reads-n.ensures.set_after c.requires.2.reads.set_room;
    } in
    let pairs-in : 8192 ≤ length c.find_reads-n.new.keys = omega (arith, c.find_reads-n.auto.keys, c.requires.2.reads.keys-room) in
    let reads = reads_found in (
      c.requires.0,
      pins_won_there reads,
      pairs_numbered reads c.find_reads-n.new.keys _ (pairs-in) c.write_reads.ensures.bases_after,
      record {
        words = omega (arith, c.find_reads-n.ensures.value, c.find_reads-n.auto.set, c.requires.2.reads.set_room);
        section = first_length (2 * (c.args.part.now.body.lanes * c.args.rounds)) (20 * c.args.part.now.body.lanes) c.args.out.now c.requires.2.sections c.write_reads.new.out c.write_reads.auto.out;
        slots = omega (arith, c.find_reads-n.auto.scratch, c.requires.2.reads.scratch-room, c.requires.0.body.laid.lanes);
        entries = omega (arith, c.find_reads-n.auto.set, c.requires.2.reads.set_room, c.requires.0.body.laid.lanes);
      },
    )

pub shape_of-room : goal.shape_of-room
shape_of-room c = c.find_reads-n.auto.room

pub shape_of-keys : goal.shape_of-keys
shape_of-keys c =
    c.write_reads.auto.bases ∙ c.find_reads-n.auto.keys

pub shape_of-scratch : goal.shape_of-scratch
shape_of-scratch c =
    c.write_first.auto.list ∙ c.find_reads-n.auto.scratch

pub shape_of-set : goal.shape_of-set
shape_of-set c =
    c.write_first.auto.set ∙ c.find_reads-n.auto.set

pub returns : goal.returns
returns c =
    let reads_found : ReadsFound c.args.part.now.d.now c.args.part.now.p c.args.part.now.body c.find_reads-n.new.room c.find_reads-n.new.set c.find_reads-n.result = record {
      part = c.requires.0;
      narrow = c.find_reads-n.ensures.all_narrow;
      found = c.find_reads-n.ensures.found_room;
      wide = c.find_reads-n.auto.room ∙ c.requires.2.found;
      count = c.find_reads-n.ensures.value.0;
      few = c.find_reads-n.ensures.value.1;
      front = set_front c.args.part.now.d.now c.args.part.now.p c.args.set.now _ _ c.find_reads-n.ensures.value c.find_reads-n.ensures.set_after c.requires.2.reads.set_room;
    } in
    let reads = reads_found in
    let words = 2 * (c.args.part.now.body.lanes * c.args.rounds) in
    let size = c.write_reads.auto.out ∙ length-take-le words c.args.out.now (omega (arith, c.requires.2.sections)) in
    record {
      out_after = two_parts words c.args.out.now c.write_reads.new.out _ size ∙ ap₂ ◌++◌ (c.write_reads.ensures.out_after ∙ ap read_section (lanes_are reads)) c.write_first.ensures;
      rounds_bound = rounds_few reads c.args.rounds c.requires.1;
    }
