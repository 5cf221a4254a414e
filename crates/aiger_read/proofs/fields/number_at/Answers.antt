-- `aiger_read::fields::number_at` meets its contract: nothing there, a nought, other digits, another byte. Assumes nothing.
use mathlib.Core.Path.{sym, ◌∙◌}
use Rattle.aiger_read.proofs.FieldLaws.{number_past, number_nought, number_first, number_other}
use Rattle.aiger_read.proofs.fields.number_at.Goals as goal

pub returns-then-bytes-at : goal.returns-then-bytes-at
returns-then-bytes-at c = number_past c.args.bytes.now _ _ c.if-bytes-at.true

pub returns-then-bytes-at-eq48 : goal.returns-then-bytes-at-eq48
returns-then-bytes-at-eq48 c = number_nought c.args.bytes.now _ _ c.if-bytes-at.false c.if-bytes-at-eq48.true

pub returns-in_err-digit_of : goal.returns-in_err-digit_of
returns-in_err-digit_of c = c.from_residual.ensures ∙ number_other c.args.bytes.now _ _ c.if-bytes-at.false (sym c.digit_of.ensures ∙ c.in_err-digit_of.was)

pub returns : goal.returns
returns c =
    number_first c.args.bytes.now _ _ c.if-bytes-at.false _ _ (sym c.digit_of.ensures ∙ c.in_ok-digit_of.was) c.if-bytes-at-eq48.false c.digits_from.ensures
