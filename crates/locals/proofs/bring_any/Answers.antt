-- `locals::bring_any` meets its contract: 1, then 2, then what a set in form gets.
-- Assumes nothing.
use mathlib.Core.Path.{sym, ap, ◌∙◌}
use Rattle.std.specs.Prelude.{Err}
use Rattle.words.specs.Answer.{Answer}
use Rattle.words.proofs.FoundLaws.{item_some, item_none}
use Rattle.reads.specs.ReadSet.{pairs_of}
use Rattle.reads.specs.SetAnswer.{Packed}
use Rattle.rounds.proofs.RoundsAnswerLaws.{is_read}
use Rattle.locals.specs.LocalAnswer.{brought_in}
use Rattle.locals.specs.Bring.{brought_of}
use Rattle.locals.proofs.BroughtLaws.{lost_told, read_many, read_bad}
use Rattle.locals.proofs.bring_any.Goals as goal

pub returns-then-set-gt-SET_WORDS : goal.returns-then-set-gt-SET_WORDS
returns-then-set-gt-SET_WORDS c =
    ap Err c.nowhere.ensures ∙ lost_told c.args.set.now c.args.w c.args.k _ _ (read_many c.args.lanes c.args.set.now c.if-set-gt-SET_WORDS.true)

pub returns-in-Some : goal.returns-in-Some
returns-in-Some c =
    let bad = item_some _ _ (sym c.check_form.ensures ∙ c.in-Some.is) in
    ap Err c.at_item.ensures ∙ lost_told c.args.set.now c.args.w c.args.k _ _ (read_bad c.args.lanes c.args.set.now _ c.if-set-gt-SET_WORDS.false bad)

pub bring-requires : goal.bring-requires
bring-requires c =
    (record { few = c.if-set-gt-SET_WORDS.false; form = item_none _ (sym c.check_form.ensures ∙ c.in_default.is) }, c.requires)

pub returns : goal.returns
returns c =
    let form = item_none _ (sym c.check_form.ensures ∙ c.in_default.is) in
    c.bring.ensures
    ∙ ap (λ (o : Answer Packed). brought_of (brought_in (pairs_of c.args.set.now) c.args.w c.args.k o)) (sym (is_read c.args.lanes c.args.set.now 0 c.if-set-gt-SET_WORDS.false form))
