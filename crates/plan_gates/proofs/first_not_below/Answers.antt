-- The gates' pins ascend where refusal 6 is excluded.
-- Assumes nothing.
use Rattle.std.proofs.Common.{rules, ℕ, ap, sym, subst, ◌∙◌}
use Rattle.sort.specs.HalfSearch.{Monotone, least}
use Rattle.plan_record.specs.Record.{gate_pin}
use Rattle.plan_gates.proofs.GateLaws.{pins_monotone}
use Rattle.plan_gates.proofs.first_not_below.Goals as goal

pub returns : goal.returns
returns c =
    let n = sym c.gates_of.ensures in
    let rising = subst (Monotone (gate_pin c.args.d.now)) n (pins_monotone c.args.d.now c.requires) in
    c.partition_point.ensures.least (gate_pin c.args.d.now) c.args.pin.0 rising (λ i h b e. search rules)
    ∙ ap (λ (k : ℕ). least (gate_pin c.args.d.now) k c.args.pin.0) c.gates_of.ensures
