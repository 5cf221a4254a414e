-- `listing::answer_to` meets its contract: a bad record, or what the rounds of the read set give.
-- Assumes nothing.
use mathlib.Core.Path.{sym, ap, ◌∙◌}
use Prim.Native.Nat.{ℕ}
use lib.ListN.{replicate}
use lib.Seq.{length-take-le}
use Rattle.listing_records.specs.Records.{records}
use Rattle.listing_records.proofs.RecordBitLaws.{refused_in, keys_few}
use Rattle.listing.proofs.AnswerToLaws.{to_bad, room_size, to_few, to_front, to_said, to_section}
use Rattle.listing.proofs.answer_to.Goals as goal

pub slice_bounds-read_set_of-end-2 : goal.slice_bounds-read_set_of-end-2
slice_bounds-read_set_of-end-2 c =
    sym (length-take-le 16384 c.args.room.now c.requires.0)

pub read_set_of-requires : goal.read_set_of-requires
read_set_of-requires c =
    (length-take-le 16384 c.args.room.now c.requires.0, c.requires.2, c.requires.3)

pub slice_bounds-rounds_of-end : goal.slice_bounds-rounds_of-end
slice_bounds-rounds_of-end c =
    to_few (records c.args.s.now) (keys_few _ 8192 0) c.args.room.now c.requires.0 c.read_set_of.ensures.set_after _ (sym c.in-Ok.is ∙ c.read_set_of.ensures.value)

pub slice_bounds-rounds_of-end-in-Ok : goal.slice_bounds-rounds_of-end-in-Ok
slice_bounds-rounds_of-end-in-Ok c =
    to_front (records c.args.s.now) (keys_few _ 8192 0) c.args.room.now c.requires.0 c.read_set_of.ensures.set_after _ (sym c.in-Ok.is ∙ c.read_set_of.ensures.value)

pub returns-in-Ok : goal.returns-in-Ok
returns-in-Ok c =
    let is = sym c.in-Ok.is ∙ c.read_set_of.ensures.value in
    record {
      value = to_said (records c.args.s.now) (keys_few _ 8192 0) c.args.room.now c.requires.0 c.read_set_of.ensures.set_after _ is c.args.lanes _ c.rounds_of-answer.ensures.value;
      room_after = c.clear.ensures ∙ ap (λ (n : ℕ). replicate n 0) (room_size c.args.room.now c.read_set_of.new.set c.requires.0 c.read_set_of.auto.set);
      section_after = to_section (records c.args.s.now) (keys_few _ 8192 0) c.args.room.now c.requires.0 c.read_set_of.ensures.set_after _ is c.args.lanes _ _ c.rounds_of-answer.ensures.section_after;
    }

pub returns-in-Err : goal.returns-in-Err
returns-in-Err c =
    let bad = to_bad c.args.lanes _ _ _ (refused_in _ _ _ (sym c.in-Err.is ∙ c.read_set_of.ensures.value)) in
    record {
      value = bad.0;
      room_after = c.clear-in-Err.ensures ∙ ap (λ (n : ℕ). replicate n 0) (room_size c.args.room.now c.read_set_of.new.set c.requires.0 c.read_set_of.auto.set);
      section_after = bad.1;
    }
