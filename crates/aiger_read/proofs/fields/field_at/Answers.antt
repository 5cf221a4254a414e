-- `aiger_read::fields::field_at` meets its contract: the byte behind the number is there, is the one asked for, or is not. Assumes nothing.
use mathlib.Core.Path.{sym, ◌∙◌}
use lib.ListN.{drop}
use Rattle.aiger.specs.Reading.{number_in}
use Rattle.aiger_read.proofs.FieldLaws.{value_parts, field_past, field_ends, field_other, field_wrong}
use Rattle.aiger_read.proofs.fields.field_at.Goals as goal

pub returns-in_err-number : goal.returns-in_err-number
returns-in_err-number c = c.from_residual.ensures ∙ field_wrong c.args.bytes.now _ _ _ (sym c.number_at.ensures ∙ c.in_err-number.was)

pub returns-then-bytes-number : goal.returns-then-bytes-number
returns-then-bytes-number c =
    let N = value_parts _ (number_in c.args.at (drop c.args.at c.args.bytes.now)) _ (sym c.number_at.ensures ∙ c.in_ok-number.was) in
    field_past c.args.bytes.now _ _ _ _ c.requires N c.if-bytes-number.true

pub returns-then-bytes-number-2 : goal.returns-then-bytes-number-2
returns-then-bytes-number-2 c =
    let N = value_parts _ (number_in c.args.at (drop c.args.at c.args.bytes.now)) _ (sym c.number_at.ensures ∙ c.in_ok-number.was) in
    field_other c.args.bytes.now _ _ _ _ c.requires N c.if-bytes-number-2.true

pub returns : goal.returns
returns c =
    let N = value_parts _ (number_in c.args.at (drop c.args.at c.args.bytes.now)) _ (sym c.number_at.ensures ∙ c.in_ok-number.was) in
    field_ends c.args.bytes.now _ _ _ _ c.requires N c.if-bytes-number-2.false
