-- Each count, as it is read.
-- Assumes nothing.
use Rattle.std.proofs.Common.{rules, ℕ, leb, ap, ◌∙◌}
use Rattle.words.specs.Tests.{all_below}
use Rattle.plan_record.specs.Record.{count_at}
use Rattle.plan_record.specs.Form.{counts_form}
use Rattle.plan_form.proofs.counts_form.Goals as goal

pub returns : goal.returns
unfolding counts_form
returns c =
    let small = λ (s : ℕ). leb (count_at c.args.d.now s) 4096 in
    c.all_below.ensures small (λ i h b e. search rules) ∙ ap (all_below small) c.majors_of.ensures
