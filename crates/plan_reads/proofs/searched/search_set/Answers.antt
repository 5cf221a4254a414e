-- `plan_reads::searched::search_set` meets its contract: a size that won is told, and its lanes are read from the table.
-- Assumes nothing.
use mathlib.Core.Path.{sym, ◌∙◌}
use Prim.Native.Nat.{ℕ}
use native.Mathlib.Omega.{arith}
use Rattle.std.proofs.lemmas.Result.{err_from_is_err_and}
use Rattle.rounds.proofs.RoundsAnswerLaws.{lost_is}
use Rattle.plan_reads.proofs.SearchedLaws.{in_search, searched_win, won_few, won_reads, lost_reads}
use Rattle.plan_reads.proofs.searched.search_set.Goals as goal

pub search_sizes-requires : goal.search_sizes-requires
search_sizes-requires c =
    in_search c.requires.0 c.requires.1 (λ (x : ℕ). (c.type_inv.set x).fits)

pub longest_row-n-requires : goal.longest_row-n-requires
longest_row-n-requires c =
    let told = searched_win c.requires.0 c.requires.1 (λ (x : ℕ). (c.type_inv.set x).fits) c.search_sizes.new.table _ _ c.search_sizes.ensures.value c.in_ok-size.was c.search_sizes.ensures.table_after c.search_sizes.auto.table in
    told.0.readable

pub overflow_cast-result : goal.overflow_cast-result
overflow_cast-result c =
    let told = searched_win c.requires.0 c.requires.1 (λ (x : ℕ). (c.type_inv.set x).fits) c.search_sizes.new.table _ _ c.search_sizes.ensures.value c.in_ok-size.was c.search_sizes.ensures.table_after c.search_sizes.auto.table in
    omega (arith, won_few c.requires.0 c.requires.1 (λ (x : ℕ). (c.type_inv.set x).fits) _ told.0 _ c.longest_row-n.ensures)

pub overflow_cast-result-2 : goal.overflow_cast-result-2
overflow_cast-result-2 c =
    let told = searched_win c.requires.0 c.requires.1 (λ (x : ℕ). (c.type_inv.set x).fits) c.search_sizes.new.table _ _ c.search_sizes.ensures.value c.in_ok-size.was c.search_sizes.ensures.table_after c.search_sizes.auto.table in
    omega (arith, told.2)

pub returns-in_err-size : goal.returns-in_err-size
returns-in_err-size c =
    let p = err_from_is_err_and c.from_residual.result c.from_residual.ensures.1 in
    record { value = rw (p.1, p.2) (lost_reads c.args.lanes c.args.set.now _ (lost_is _ _ (sym c.search_sizes.ensures.value ∙ c.in_err-size.was))); table_after = c.search_sizes.ensures.table_after }

pub returns : goal.returns
returns c =
    let told = searched_win c.requires.0 c.requires.1 (λ (x : ℕ). (c.type_inv.set x).fits) c.search_sizes.new.table _ _ c.search_sizes.ensures.value c.in_ok-size.was c.search_sizes.ensures.table_after c.search_sizes.auto.table in
    record { value = won_reads c.requires.0 c.requires.1 (λ (x : ℕ). (c.type_inv.set x).fits) _ told.0 _ c.longest_row-n.ensures _ told.1; table_after = c.search_sizes.ensures.table_after }
