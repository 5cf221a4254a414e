-- `aiger_read::start::start_of` meets its contract: a header, and the lines that it says. Assumes nothing.
use mathlib.Core.Path.{sym, ◌∙◌}
use native.Mathlib.Omega.{arith}
use Rattle.words.proofs.FoundLaws.{item_some, item_none}
use Rattle.aiger_read.proofs.HeaderReadLaws.{start_wrong, start_header, start_found, start_cut}
use Rattle.aiger_read.proofs.start.start_of.Goals as goal

pub returns-in_err-header : goal.returns-in_err-header
returns-in_err-header c = c.from_residual.ensures ∙ start_wrong _ (sym c.header_of.ensures ∙ c.in_err-header.was)

pub overflow_add-most : goal.overflow_add-most
overflow_add-most c = let H = start_header _ _ (sym c.header_of.ensures ∙ c.in_ok-header.was) in omega (arith, H.fits)

pub overflow_add-most-2 : goal.overflow_add-most-2
overflow_add-most-2 c = let H = start_header _ _ (sym c.header_of.ensures ∙ c.in_ok-header.was) in omega (arith, H.fits)

pub overflow_mul-most : goal.overflow_mul-most
overflow_mul-most c = let H = start_header _ _ (sym c.header_of.ensures ∙ c.in_ok-header.was) in omega (arith, H.fits)

pub overflow_add-most-3 : goal.overflow_add-most-3
overflow_add-most-3 c = let H = start_header _ _ (sym c.header_of.ensures ∙ c.in_ok-header.was) in omega (arith, H.fits)

pub overflow_add-header : goal.overflow_add-header
overflow_add-header c = let H = start_header _ _ (sym c.header_of.ensures ∙ c.in_ok-header.was) in omega (arith, H.fits, H.lines)

pub returns-in_err-next : goal.returns-in_err-next
returns-in_err-next c =
    let H = start_header _ _ (sym c.header_of.ensures ∙ c.in_ok-header.was) in
    c.from_residual-in_err-next.ensures ∙ start_cut _ _ _ H (item_none _ (sym c.lines_from.ensures ∙ c.in_err-next.was))

pub returns : goal.returns
returns c =
    let H = start_header _ _ (sym c.header_of.ensures ∙ c.in_ok-header.was) in
    start_found _ _ _ H _ (item_some _ _ (sym c.lines_from.ensures ∙ c.in_ok-next.was))
