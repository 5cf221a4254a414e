-- Each head, as `part_form` finds it.
-- Assumes nothing.
use Rattle.std.proofs.Common.{rules, ap, ◌∙◌}
use Rattle.words.specs.Tests.{all_below}
use Rattle.plan_record.specs.Form.{part_head_form}
use Rattle.plan_form.proofs.heads_form.Goals as goal

pub returns : goal.returns
returns c =
    c.all_below.ensures (part_head_form c.args.d.now) (λ i h b e. search rules) ∙ ap (all_below (part_head_form c.args.d.now)) c.parts_of.ensures.0
