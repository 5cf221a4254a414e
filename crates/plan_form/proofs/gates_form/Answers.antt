-- Each one, as `gate_form` finds it, stands before the part heads.
-- Assumes nothing.
use Rattle.std.proofs.Common.{rules, ℕ, ◌+◌, ◌*◌, ◌/◌, ◌<◌, length, ap, ◌∙◌, arith}
use Rattle.words.specs.Tests.{all_below}
use Rattle.plan_record.specs.Form.{gate_form}
use Rattle.plan_record.proofs.RecordLaws.{gate_before_lem}
use Rattle.plan_form.proofs.gates_form.Goals as goal

pub all_below-requires : goal.all_below-requires
all_below-requires c =
    let inside : (i : ℕ) → i < c.gates_of.result → c.gate_base-base.result + 3 * i + 2 < length c.args.d.now / 4 = λ i h. omega (arith, gate_before_lem c.args.d.now i (omega arith)) in
    search rules

pub returns : goal.returns
returns c = c.all_below.ensures (gate_form c.args.d.now) (λ i h b e. search rules) ∙ ap (all_below (gate_form c.args.d.now)) c.gates_of.ensures
