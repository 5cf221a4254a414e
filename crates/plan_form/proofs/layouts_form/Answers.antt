-- Each one, as `layout_form` finds it, stands before the part heads.
-- Assumes nothing.
use Rattle.std.proofs.Common.{rules, ℕ, ◌+◌, ◌/◌, ◌<◌, length, ap, ◌∙◌, arith}
use Rattle.words.specs.Tests.{all_below}
use Rattle.plan_record.specs.Form.{layout_form}
use Rattle.plan_record.proofs.RecordLaws.{layout_before}
use Rattle.plan_form.proofs.layouts_form.Goals as goal

pub all_below-requires : goal.all_below-requires
all_below-requires c =
    let inside : (i : ℕ) → i < c.layout_of.result → c.layout_base-base.result + i < length c.args.d.now / 4 = λ i h. omega (arith, layout_before c.args.d.now i (omega arith)) in
    search rules

pub returns : goal.returns
returns c = c.all_below.ensures (layout_form c.args.d.now) (λ i h b e. search rules) ∙ ap (all_below (layout_form c.args.d.now)) c.layout_of.ensures
