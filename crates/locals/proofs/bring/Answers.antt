-- `locals::bring` meets its contract: where a size won, the table has its lanes.
-- Assumes nothing.
use mathlib.Core.Path.{sym, ◌∙◌}
use Rattle.std.proofs.lemmas.Result.{err_from_is_err_and}
use Rattle.rounds.proofs.RoundsAnswerLaws.{lost_is, won_is}
use Rattle.locals.proofs.AsksLaws.{asks_low}
use Rattle.locals.proofs.BroughtLaws.{findable, to_told, unasked_told, lost_told}
use Rattle.locals.proofs.bring.Goals as goal

pub returns-in_err-search_lanes : goal.returns-in_err-search_lanes
returns-in_err-search_lanes c =
    let p = err_from_is_err_and c.from_residual.result c.from_residual.ensures.1 in
    rw (p.1, p.2) (lost_told c.args.set.now c.args.w c.args.k _ _ (lost_is _ _ (sym c.search_lanes.ensures.value ∙ c.in_err-search_lanes.was)))

pub asked_bit-requires : goal.asked_bit-requires
asked_bit-requires c = asks_low c.args.set.now c.args.w c.args.k (λ i. (c.type_inv.set i).fits) (sym c.is_asked.ensures ∙ c.if-not-is_asked.false)

pub position_in-requires : goal.position_in-requires
position_in-requires c =
    let (x, is, size) = won_is _ _ (sym c.search_lanes.ensures.value ∙ c.in_ok-search_lanes.was) in
    rw c.asked_bit.ensures
    (findable c.args.lanes c.args.set.now c.requires.0 (λ i. (c.type_inv.set i).fits) _ c.requires.1 x is c.search_lanes.new.table c.search_lanes.ensures.table_after c.search_lanes.auto.table c.args.w c.args.k (sym c.is_asked.ensures ∙ c.if-not-is_asked.false))

pub returns-then-not-is_asked : goal.returns-then-not-is_asked
returns-then-not-is_asked c =
    let (x, is, size) = won_is _ _ (sym c.search_lanes.ensures.value ∙ c.in_ok-search_lanes.was) in
    unasked_told c.args.lanes c.args.set.now x c.args.w c.args.k is (sym c.is_asked.ensures ∙ c.if-not-is_asked.true)

pub returns : goal.returns
returns c =
    let (x, is, size) = won_is _ _ (sym c.search_lanes.ensures.value ∙ c.in_ok-search_lanes.was) in
    to_told c.args.lanes c.args.set.now c.requires.0 (λ i. (c.type_inv.set i).fits) _ c.requires.1 x is c.search_lanes.new.table c.search_lanes.ensures.table_after c.search_lanes.auto.table c.args.w c.args.k (sym c.is_asked.ensures ∙ c.if-not-is_asked.false)
    c.position_in.result (rw c.asked_bit.ensures at c.position_in.ensures)
