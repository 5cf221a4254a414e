-- `listing::list` meets its contract: the answer's text is the listing, and its length decides.
-- Assumes nothing.
use mathlib.Core.Path.{refl, sym, ap, ◌∙◌}
use native.Mathlib.Omega.{arith}
use Rattle.std.specs.Prelude.{Err}
use borrow.Author.Rules.{rules}
use Rattle.words.proofs.EditionLaws.{known_number, known_least, known_most}
use Rattle.listing.proofs.ListedTextLaws.{list_short_room, list_unknown, room_kept, room_zeros, cleared, lists_short, lists_text}
use Rattle.listing.proofs.list.Goals as goal

pub returns-then-room-lt-ROOM_WORDS : goal.returns-then-room-lt-ROOM_WORDS
returns-then-room-lt-ROOM_WORDS c =
    let l = list_short_room c.args.edition c.args.records.now c.args.out.now _ c.if-room-lt-ROOM_WORDS.true in
    record { value = ap Err c.nowhere.ensures ∙ l.0; room_after = room_kept c.args.room.now c.if-room-lt-ROOM_WORDS.true; out_after = l.1 }

pub returns-then-not-is_edition : goal.returns-then-not-is_edition
returns-then-not-is_edition c =
    let unknown = sym c.is_edition.ensures ∙ c.if-not-is_edition.true in
    let l = list_unknown c.args.edition c.args.records.now c.args.out.now _ c.if-room-lt-ROOM_WORDS.false unknown in
    record { value = ap Err c.nowhere-then-not-is_edition.ensures ∙ l.0; room_after = c.clear.ensures ∙ sym (room_zeros c.args.room.now c.if-room-lt-ROOM_WORDS.false); out_after = l.1 }

pub answer_to-answer-requires : goal.answer_to-answer-requires
answer_to-answer-requires c =
    let edition = known_number _ (sym c.is_edition.ensures ∙ c.if-not-is_edition.false) in
    (c.if-room-lt-ROOM_WORDS.false, search rules, search rules, search rules, omega (arith, known_least _ edition), known_most _ edition)

pub invariant_of-section : goal.invariant_of-section
invariant_of-section c = record { few = known_most _ (known_number _ (sym c.is_edition.ensures ∙ c.if-not-is_edition.false)) }

pub returns-then-out-n : goal.returns-then-out-n
returns-then-out-n c =
    let known = sym c.is_edition.ensures ∙ c.if-not-is_edition.false in
    let l = lists_short c.args.edition c.args.records.now c.args.room.now c.args.out.now c.if-room-lt-ROOM_WORDS.false known c.answer_to-answer.ensures.section_after c.answer_to-answer.ensures.value c.text_length-n.ensures c.if-out-n.true in
    record { value = ap Err c.nowhere-then-out-n.ensures ∙ l.0; room_after = cleared c.args.room.now c.args.room.now _ c.if-room-lt-ROOM_WORDS.false refl c.answer_to-answer.ensures.room_after; out_after = l.1 }

pub returns : goal.returns
returns c =
    let known = sym c.is_edition.ensures ∙ c.if-not-is_edition.false in
    let l = lists_text c.args.edition c.args.records.now c.args.room.now c.args.out.now c.if-room-lt-ROOM_WORDS.false known c.answer_to-answer.ensures.section_after c.answer_to-answer.ensures.value c.text_length-n.ensures c.if-out-n.false c.put_text.ensures in
    record { value = l.0; room_after = cleared c.args.room.now c.args.room.now _ c.if-room-lt-ROOM_WORDS.false refl c.answer_to-answer.ensures.room_after; out_after = l.1 }
