use mathlib.Core.Path.{sym, ◌∙◌}
use native.Mathlib.Omega.{arith}
use Rattle.std.proofs.lemmas.Result.{err_from_is_err_and}
use Rattle.listing_records.proofs.ListingRecordLaws.{reading_start, reading_more, reading_asked, reading_refused, stop_full, stop_bad}
use Rattle.listing_records.proofs.read_records.Goals as goal

pub loop-asked-init : goal.loop-asked-init
loop-asked-init c = reading_start _ _ _

pub returns-in_err-asked : goal.returns-in_err-asked
returns-in_err-asked c =
    let p = err_from_is_err_and c.from_residual.result c.from_residual.ensures.1 in
    let told = reading_refused c.loop-asked.invariant _ (stop_bad _ _ _ _ (sym c.record_at.ensures ∙ c.in_err-asked.was)) in
    rw (p.1, p.2) (record { value = told.0; keys_after = told.1 })

pub returns-then-n-keys : goal.returns-then-n-keys
returns-then-n-keys c =
    let is = rw c.in-Some.is at (sym c.record_at.ensures ∙ c.in_ok-asked.was) in
    let told = reading_refused c.loop-asked.invariant _ (stop_full _ _ _ _ is (omega arith)) in
    record { value = told.0; keys_after = told.1 }

pub loop-asked-preserved : goal.loop-asked-preserved
loop-asked-preserved c =
    let is = rw c.in-Some.is at (sym c.record_at.ensures ∙ c.in_ok-asked.was) in
    reading_more c.loop-asked.invariant _ is (omega arith)

pub returns : goal.returns
returns c =
    let told = reading_asked c.loop-asked.invariant (rw c.in_default.is at (sym c.record_at.ensures ∙ c.in_ok-asked.was)) in
    record { value = told.0; keys_after = told.1 }
