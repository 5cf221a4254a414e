-- The gates of a record, told one by one.
-- Assumes nothing.
use Rattle.std.proofs.Common.{rules, ℕ, ap, ◌∙◌}
use Rattle.words.specs.Found.{item_of}
use Rattle.plan_record.specs.Record.{gate_pin, gate_first, gate_second}
use Rattle.gatelist.specs.GateList.{bad_over}
use Rattle.plan_gates.specs.Gates.{bad_gate}
use Rattle.plan_gates.proofs.check_gates.Goals as goal

pub returns : goal.returns
unfolding bad_gate
returns c =
    c.first_wrong.ensures (gate_pin c.args.d.now) (gate_first c.args.d.now) (gate_second c.args.d.now) (λ i h x e. search rules)
    ∙ ap (λ (n : ℕ). item_of (bad_over (gate_pin c.args.d.now) (gate_first c.args.d.now) (gate_second c.args.d.now) n)) c.gates_of.ensures
