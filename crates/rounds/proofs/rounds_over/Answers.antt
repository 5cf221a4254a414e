-- `rounds_over`: each way through has its outcome, in the order of the refusals; the table of a size that won is the one that is read.
-- Assumes nothing.
use mathlib.Core.Path.{sym, ap, ◌∙◌}
use native.Mathlib.Omega.{arith}
use Rattle.std.proofs.lemmas.Result.{err_from_is_err_and}
use Rattle.words.proofs.FoundLaws.{item_some, item_none}
use Rattle.reads.specs.Search.{longest}
use Rattle.rounds.proofs.RoundsAnswerLaws.{is_many, is_bad, is_lost, is_short, is_placed, refused_post, placed_post, searchable_set, lost_is, found, size_fits}
use Rattle.rounds.proofs.rounds_over.Goals as goal

pub returns-then-set-gt-SET_WORDS : goal.returns-then-set-gt-SET_WORDS
returns-then-set-gt-SET_WORDS c =
    let told = refused_post _ _ _ _ (is_many c.args.lanes c.args.set.now _ c.if-set-gt-SET_WORDS.true) c.nowhere.ensures in
    record { value = told.0; out_after = told.1 }

pub returns-in-Some : goal.returns-in-Some
returns-in-Some c =
    let bad = item_some _ _ (sym c.check_form.ensures ∙ c.in-Some.is) in
    let told = refused_post _ _ _ _ (is_bad c.args.lanes c.args.set.now _ c.if-set-gt-SET_WORDS.false _ bad) c.at_item.ensures in
    record { value = told.0; out_after = told.1 }

pub search_sizes-requires : goal.search_sizes-requires
search_sizes-requires c =
    searchable_set c.requires c.if-set-gt-SET_WORDS.false (item_none _ (sym c.check_form.ensures ∙ c.in_default.is)) (λ x. (c.type_inv.set x).fits)

pub returns-in_err-size : goal.returns-in_err-size
returns-in_err-size c =
    let p = err_from_is_err_and c.from_residual.result c.from_residual.ensures.1 in
    let out = lost_is _ _ (sym c.search_sizes.ensures.value ∙ c.in_err-size.was) in
    let form = item_none _ (sym c.check_form.ensures ∙ c.in_default.is) in
    let told = refused_post _ _ _ _ (is_lost c.args.lanes c.args.set.now _ c.if-set-gt-SET_WORDS.false form _ out) p.2 in
    rw p.1 (record { value = told.0; out_after = told.1 })

pub longest_row-rounds-requires : goal.longest_row-rounds-requires
longest_row-rounds-requires c =
    let w = found c.requires c.if-set-gt-SET_WORDS.false (item_none _ (sym c.check_form.ensures ∙ c.in_default.is)) (λ x. (c.type_inv.set x).fits) _
    c.search_sizes.ensures.value _ c.in_ok-size.was _ c.search_sizes.ensures.table_after c.search_sizes.auto.table in
    w.readable

pub overflow_mul-lanes-2 : goal.overflow_mul-lanes-2
overflow_mul-lanes-2 c =
    let w = found c.requires c.if-set-gt-SET_WORDS.false (item_none _ (sym c.check_form.ensures ∙ c.in_default.is)) (λ x. (c.type_inv.set x).fits) _
    c.search_sizes.ensures.value _ c.in_ok-size.was _ c.search_sizes.ensures.table_after c.search_sizes.auto.table in
    let rounds = c.longest_row-rounds.ensures ∙ ap longest w.same in
    omega (arith, size_fits c.args.lanes c.longest_row-rounds.result c.requires.few-lanes (omega (arith, rounds, w.few_rounds)))

pub returns-then-out-lanes : goal.returns-then-out-lanes
returns-then-out-lanes c =
    let w = found c.requires c.if-set-gt-SET_WORDS.false (item_none _ (sym c.check_form.ensures ∙ c.in_default.is)) (λ x. (c.type_inv.set x).fits) _
    c.search_sizes.ensures.value _ c.in_ok-size.was _ c.search_sizes.ensures.table_after c.search_sizes.auto.table in
    let rounds = c.longest_row-rounds.ensures ∙ ap longest w.same in
    let form = item_none _ (sym c.check_form.ensures ∙ c.in_default.is) in
    let short = is_short c.args.lanes c.args.set.now _ c.if-set-gt-SET_WORDS.false form w.packing w.packed_is (rw rounds at c.if-out-lanes.true) in
    let told = refused_post _ _ _ _ short c.nowhere-then-out-lanes.ensures in
    record { value = told.0; out_after = told.1 }

pub write_rounds-requires : goal.write_rounds-requires
write_rounds-requires c =
    let w = found c.requires c.if-set-gt-SET_WORDS.false (item_none _ (sym c.check_form.ensures ∙ c.in_default.is)) (λ x. (c.type_inv.set x).fits) _
    c.search_sizes.ensures.value _ c.in_ok-size.was _ c.search_sizes.ensures.table_after c.search_sizes.auto.table in
    let rounds = c.longest_row-rounds.ensures ∙ ap longest w.same in
    record { table = w.readable; rounds = omega (arith, rounds, w.few_rounds); fits = c.if-out-lanes.false }

pub overflow_cast-result : goal.overflow_cast-result
overflow_cast-result c =
    let w = found c.requires c.if-set-gt-SET_WORDS.false (item_none _ (sym c.check_form.ensures ∙ c.in_default.is)) (λ x. (c.type_inv.set x).fits) _
    c.search_sizes.ensures.value _ c.in_ok-size.was _ c.search_sizes.ensures.table_after c.search_sizes.auto.table in
    let rounds = c.longest_row-rounds.ensures ∙ ap longest w.same in
    omega (arith, rounds, w.few_rounds)

pub overflow_cast-result-2 : goal.overflow_cast-result-2
overflow_cast-result-2 c =
    let w = found c.requires c.if-set-gt-SET_WORDS.false (item_none _ (sym c.check_form.ensures ∙ c.in_default.is)) (λ x. (c.type_inv.set x).fits) _
    c.search_sizes.ensures.value _ c.in_ok-size.was _ c.search_sizes.ensures.table_after c.search_sizes.auto.table in
    omega (arith, w.size_few)

pub returns : goal.returns
returns c =
    let w = found c.requires c.if-set-gt-SET_WORDS.false (item_none _ (sym c.check_form.ensures ∙ c.in_default.is)) (λ x. (c.type_inv.set x).fits) _
    c.search_sizes.ensures.value _ c.in_ok-size.was _ c.search_sizes.ensures.table_after c.search_sizes.auto.table in
    let rounds = c.longest_row-rounds.ensures ∙ ap longest w.same in
    let form = item_none _ (sym c.check_form.ensures ∙ c.in_default.is) in
    let fits = is_placed c.args.lanes c.args.set.now _ c.if-set-gt-SET_WORDS.false form w.packing w.packed_is (rw rounds at c.if-out-lanes.false) in
    let told = placed_post _ w.packing _ _ _ c.args.out.now _ fits w.same c.longest_row-rounds.ensures w.size c.write_rounds.ensures in
    record { value = told.0; out_after = told.1 }
