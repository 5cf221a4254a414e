-- `report_batch::is_batch` meets its contract: the parts' counts bound the totals' products. Assumes nothing.
use mathlib.Core.Path.{sym, ◌∙◌}
use Rattle.report_batch.proofs.BatchFormLaws.{parts_in, form_is}
use Rattle.report_batch.proofs.is_batch.Goals as goal

pub are_totals_right-requires : goal.are_totals_right-requires
are_totals_right-requires c = parts_in c.args.batch.now (sym c.are_parts_right.ensures ∙ c.if-are_parts_right.true)

pub returns-then-are_parts_right : goal.returns-then-are_parts_right
returns-then-are_parts_right c =
    c.are_totals_right.ensures ∙ form_is c.args.batch.now _ (sym c.are_parts_right.ensures ∙ c.if-are_parts_right.true)

pub returns-else-are_parts_right : goal.returns-else-are_parts_right
returns-else-are_parts_right c =
    c.if-are_parts_right.false ∙ form_is c.args.batch.now _ (sym c.are_parts_right.ensures ∙ c.if-are_parts_right.false)
