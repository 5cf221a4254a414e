-- `report_text::text` meets its contract: 5, then 14, else the text. Assumes nothing.
use mathlib.Core.Path.{sym, ap, ◌∙◌}
use Rattle.std.specs.Prelude.{Err}
use Rattle.report_text.proofs.ReportLineLaws.{not_batch, text_short, text_fits}
use Rattle.report_text.proofs.text.Goals as goal

pub returns-then-not-is_batch : goal.returns-then-not-is_batch
returns-then-not-is_batch c =
    let p = not_batch c.args.batch.now c.args.out.now (sym c.is_batch.ensures ∙ c.if-not-is_batch.true) in
    record { value = ap Err c.nowhere.ensures ∙ p.0; out_after = p.1 }

pub text_length-n-requires : goal.text_length-n-requires
text_length-n-requires c = sym c.is_batch.ensures ∙ c.if-not-is_batch.false

pub returns-then-out-n : goal.returns-then-out-n
returns-then-out-n c =
    let form = sym c.is_batch.ensures ∙ c.if-not-is_batch.false in
    let p = text_short c.args.batch.now c.args.out.now form _ c.text_length-n.ensures c.if-out-n.true in
    record { value = ap Err c.nowhere-then-out-n.ensures ∙ p.0; out_after = p.1 }

pub put_text-requires : goal.put_text-requires
put_text-requires c = sym c.is_batch.ensures ∙ c.if-not-is_batch.false

pub returns : goal.returns
returns c =
    let form = sym c.is_batch.ensures ∙ c.if-not-is_batch.false in
    let told = text_fits c.args.batch.now c.args.out.now form _ c.text_length-n.ensures _ c.if-out-n.false c.put_text.ensures in
    record { value = told.0; out_after = told.1 }
