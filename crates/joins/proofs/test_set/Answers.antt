-- `test_set`: 1, then 2.
-- Assumes nothing.
use mathlib.Core.Path.{sym, ap, ◌∙◌}
use Rattle.std.specs.Prelude.{Err}
use Rattle.words.proofs.FoundLaws.{item_some, item_none}
use Rattle.joins.specs.Merge.{tested_of}
use Rattle.joins_sets.proofs.JoinAnswerLaws.{set-many, set-bad, set_fine}
use Rattle.joins.proofs.test_set.Goals as goal

pub returns-then-set-gt-SET_WORDS : goal.returns-then-set-gt-SET_WORDS
returns-then-set-gt-SET_WORDS c = ap Err c.nowhere.ensures ∙ ap tested_of (sym (set-many c.args.set.now c.if-set-gt-SET_WORDS.true))

pub returns-in-Some : goal.returns-in-Some
returns-in-Some c =
    let bad = item_some _ _ (sym c.check_form.ensures ∙ c.in-Some.is) in
    ap Err c.at_item.ensures ∙ ap tested_of (sym (set-bad c.args.set.now _ c.if-set-gt-SET_WORDS.false bad))

pub returns-in-None : goal.returns-in-None
returns-in-None c =
    let form = item_none _ (sym c.check_form.ensures ∙ c.in-None.is) in
    ap tested_of (sym (set_fine c.args.set.now c.if-set-gt-SET_WORDS.false form))
