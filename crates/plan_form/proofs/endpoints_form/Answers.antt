-- Each endpoint, as `endpoint_form` finds it.
-- Assumes nothing.
use Rattle.std.proofs.Common.{rules, ap, ◌∙◌}
use Rattle.words.specs.Tests.{all_below}
use Rattle.plan_record.specs.Form.{endpoint_form}
use Rattle.plan_form.proofs.endpoints_form.Goals as goal

pub returns : goal.returns
returns c =
    let right = endpoint_form c.args.part.now.d.now c.args.part.now.p in
    c.all_below.ensures right (λ i h b e. search rules) ∙ ap (all_below right) c.args.part.now.of.endpoints
