-- `report_part::outcome::search_in`: each way through has its outcome; the table of a size that won is that of the lanes.
-- Assumes nothing.
use mathlib.Core.Path.{sym, ap, ◌∙◌}
use Rattle.std.specs.Prelude.{Err}
use Rattle.std.proofs.lemmas.Result.{err_from_is_err_and}
use Rattle.words.specs.Answer.{at_item, nowhere}
use Rattle.words.proofs.FoundLaws.{item_some, item_none}
use Rattle.reads.proofs.SetAnswerLaws.{placed_lanes}
use Rattle.rounds.proofs.RoundsAnswerLaws.{is_read, searchable_set, lost_is, won_is, won_table}
use Rattle.report_part.proofs.OutcomeLaws.{became_refused, became_placed, own_many, own_bad}
use Rattle.report_part.proofs.outcome.search_in.Goals as goal

pub returns-then-set-gt-SET_WORDS : goal.returns-then-set-gt-SET_WORDS
returns-then-set-gt-SET_WORDS c =
    let b = became_refused c.args.n c.args.set.now _ (nowhere 1) _ (own_many c.args.n c.args.set.now c.if-set-gt-SET_WORDS.true) in
    record { value = ap Err c.nowhere.ensures ∙ b.0; lanes_lie = b.1 }

pub returns-in-Some : goal.returns-in-Some
returns-in-Some c =
    let bad = item_some _ _ (sym c.check_form.ensures ∙ c.in-Some.is) in
    let b = became_refused c.args.n c.args.set.now _ (at_item 2 _) _ (own_bad c.args.n c.args.set.now c.if-set-gt-SET_WORDS.false _ bad) in
    record { value = ap Err c.at_item.ensures ∙ b.0; lanes_lie = b.1 }

pub search_sizes-requires : goal.search_sizes-requires
search_sizes-requires c =
    searchable_set c.requires c.if-set-gt-SET_WORDS.false (item_none _ (sym c.check_form.ensures ∙ c.in_default.is)) (λ x. (c.type_inv.set x).fits)

pub returns-in_err-search_sizes : goal.returns-in_err-search_sizes
returns-in_err-search_sizes c =
    let p = err_from_is_err_and c.from_residual.result c.from_residual.ensures.1 in
    let form = item_none _ (sym c.check_form.ensures ∙ c.in_default.is) in
    let out = lost_is _ _ (sym c.search_sizes.ensures.value ∙ c.in_err-search_sizes.was) in
    let told = became_refused c.args.n c.args.set.now _ _ _ (is_read c.args.n c.args.set.now 0 c.if-set-gt-SET_WORDS.false form ∙ out) in
    rw (p.1, p.2) (record { value = told.0; lanes_lie = told.1 })

pub returns : goal.returns
returns c =
    let few = c.if-set-gt-SET_WORDS.false in
    let form = item_none _ (sym c.check_form.ensures ∙ c.in_default.is) in
    let search-in = searchable_set c.requires few form (λ x. (c.type_inv.set x).fits) in
    let x = won_is _ _ (sym c.search_sizes.ensures.value ∙ c.in_ok-search_sizes.was) in
    let lie = won_table search-in x.0.lanes c.search_sizes.new.table (placed_lanes _ _ x.0 x.1) c.search_sizes.ensures.table_after (c.search_sizes.auto.table ∙ c.requires.room) in
    let told = became_placed c.args.n c.args.set.now _ x.0 _ (is_read c.args.n c.args.set.now 0 few form ∙ x.1) lie in
    record { value = told.0; lanes_lie = told.1 }
