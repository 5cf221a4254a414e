-- `values::value` meets its contract: one law for each way out.
-- Assumes nothing.
use mathlib.Core.Path.{◌≡◌, sym, ap, ◌∙◌}
use mathlib.Core.Bool.{true}
use Prim.Native.Nat.{◌≤◌, ◌<◌}
use native.Mathlib.Omega.{arith}
use lib.ListN.{length}
use Rattle.words.specs.Edition.{known}
use Rattle.plan_record.specs.Record.{edition_of}
use Rattle.plan_record.specs.Form.{plan_room_words, plan_form}
use Rattle.std.specs.Prelude.{Err}
use Rattle.words.specs.Answer.{Answer}
use Rattle.values.specs.Values.{Bits, valued_of, bits_after}
use Rattle.words.proofs.FoundLaws.{item_some, item_none}
use Rattle.values.proofs.ValueAnswerLaws.{out_short, out_edition, out_form, out_gate, out_lent, bits_kept, room_short, room_zeros, room_again, room_asked}
use Rattle.values.proofs.value.Goals as goal

pub returns-then-room-room_words : goal.returns-then-room-room_words
returns-then-room-room_words c =
    let o = c.args in
    let h : length o.room.now < plan_room_words o.plan.now = omega (arith, c.room_words.ensures.0, c.if-room-room_words.true) in
    let e = out_short o.plan.now o.part o.old.now o.new.now (length o.bits.now) o.pin.0 (length o.room.now) h in
    record { value = ap Err c.nowhere.ensures ∙ ap valued_of (sym e); room_after = room_short o.plan.now o.room.now h; bits_after = bits_kept _ 32 0 o.bits.now e }

pub returns-then-not-is_edition : goal.returns-then-not-is_edition
returns-then-not-is_edition c =
    let enough : plan_room_words c.args.plan.now ≤ length c.args.room.now = omega (arith, c.room_words.ensures.0, c.if-room-room_words.false) in
    let o = c.args in
    let e = out_edition o.plan.now o.part o.old.now o.new.now (length o.bits.now) o.pin.0 (length o.room.now) (enough)
    (sym (c.is_edition.ensures ∙ ap known c.edition_of.ensures) ∙ c.if-not-is_edition.true) in
    let zeros = room_zeros o.plan.now o.room.now (enough) _ c.clear.ensures in
    record { value = ap Err c.nowhere-then-not-is_edition.ensures ∙ ap valued_of (sym e); room_after = zeros; bits_after = bits_kept _ 29 0 o.bits.now e }

pub returns-then-not-plan_form : goal.returns-then-not-plan_form
returns-then-not-plan_form c =
    let enough : plan_room_words c.args.plan.now ≤ length c.args.room.now = omega (arith, c.room_words.ensures.0, c.if-room-room_words.false) in
    let named : known (edition_of c.args.plan.now) ≡ true = sym (c.is_edition.ensures ∙ ap known c.edition_of.ensures) ∙ c.if-not-is_edition.false in
    let o = c.args in
    let e = out_form o.plan.now o.part o.old.now o.new.now (length o.bits.now) o.pin.0 (length o.room.now) (enough) (named)
    (sym c.plan_form.ensures ∙ c.if-not-plan_form.true) in
    let zeros = room_zeros o.plan.now o.room.now (enough) _ c.clear.ensures in
    record { value = ap Err c.nowhere-then-not-plan_form.ensures ∙ ap valued_of (sym e); room_after = zeros; bits_after = bits_kept _ 5 0 o.bits.now e }

pub value_lent-requires : goal.value_lent-requires
value_lent-requires c =
    let enough : plan_room_words c.args.plan.now ≤ length c.args.room.now = omega (arith, c.room_words.ensures.0, c.if-room-room_words.false) in
    let formed : plan_form c.args.plan.now ≡ true = sym c.plan_form.ensures ∙ c.if-not-plan_form.false in
    let o = c.args in
    room_asked o.plan.now o.room.now (enough) _ c.clear.ensures (formed)
    (item_none _ (sym c.check_gates.ensures ∙ c.in-None.is))

pub returns-in-Some : goal.returns-in-Some
returns-in-Some c =
    let enough : plan_room_words c.args.plan.now ≤ length c.args.room.now = omega (arith, c.room_words.ensures.0, c.if-room-room_words.false) in
    let named : known (edition_of c.args.plan.now) ≡ true = sym (c.is_edition.ensures ∙ ap known c.edition_of.ensures) ∙ c.if-not-is_edition.false in
    let formed : plan_form c.args.plan.now ≡ true = sym c.plan_form.ensures ∙ c.if-not-plan_form.false in
    let o = c.args in
    let e = out_gate o.plan.now o.part o.old.now o.new.now (length o.bits.now) o.pin.0 (length o.room.now) (enough) (named)
    (formed)
    _
    (item_some _ _ (sym c.check_gates.ensures ∙ c.in-Some.is)) in
    let zeros = room_zeros o.plan.now o.room.now (enough) _ c.clear.ensures in
    record { value = ap Err c.at_item.ensures ∙ ap valued_of (sym e); room_after = zeros; bits_after = bits_kept _ 6 _ o.bits.now e }

pub returns-in-None : goal.returns-in-None
returns-in-None c =
    let enough : plan_room_words c.args.plan.now ≤ length c.args.room.now = omega (arith, c.room_words.ensures.0, c.if-room-room_words.false) in
    let named : known (edition_of c.args.plan.now) ≡ true = sym (c.is_edition.ensures ∙ ap known c.edition_of.ensures) ∙ c.if-not-is_edition.false in
    let formed : plan_form c.args.plan.now ≡ true = sym c.plan_form.ensures ∙ c.if-not-plan_form.false in
    let o = c.args in
    let e = out_lent o.plan.now o.part o.old.now o.new.now (length o.bits.now) o.pin.0 (length o.room.now) (enough) (named)
    (formed)
    (item_none _ (sym c.check_gates.ensures ∙ c.in-None.is)) in
    let zeros = room_again o.plan.now o.room.now (enough) _ c.clear.ensures _ c.value_lent.ensures.room_after in
    let bits = c.value_lent.ensures.bits_after ∙ ap (λ (r : Answer Bits). bits_after r o.bits.now) (sym e) in
    record { value = c.value_lent.ensures.value ∙ ap valued_of (sym e); room_after = zeros; bits_after = bits }
