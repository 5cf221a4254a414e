-- Each one, as `position_form` finds it, stands before the part heads.
-- Assumes nothing.
use Rattle.std.proofs.Common.{rules, ℕ, ◌+◌, ◌*◌, ◌/◌, ◌<◌, length, ap, ◌∙◌, arith}
use Rattle.words.specs.Tests.{all_below}
use Rattle.plan_record.specs.Record.{position_words}
use Rattle.plan_record.specs.Form.{position_form}
use Rattle.plan_record.proofs.RecordLaws.{position_before}
use Rattle.plan_form.proofs.positions_form.Goals as goal

pub all_below-requires : goal.all_below-requires
all_below-requires c =
    let inside : (i : ℕ) → i < c.positions_of.result → c.position_base-base.result + position_words * i + 3 < length c.args.d.now / 4 = λ i h. omega (arith, position_before c.args.d.now i (omega arith)) in
    search rules

pub returns : goal.returns
returns c = c.all_below.ensures (position_form c.args.d.now) (λ i h b e. search rules) ∙ ap (all_below (position_form c.args.d.now)) c.positions_of.ensures
