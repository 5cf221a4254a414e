-- `plan_gates::has_pin` meets its contract: by the two tests.
-- Assumes nothing.
use Rattle.std.proofs.Common.{ℕ, ◌<◌, ◌≤◌, Bool, ◌&&◌, eqb, sym, ap, ◌∙◌, arith, le-ltb, lt-ltb}
use Rattle.plan_record.specs.Record.{gates_of, gate_pin}
use Rattle.plan_gates.proofs.has_pin.Goals as goal

pub returns-then-g-gates_of : goal.returns-then-g-gates_of
returns-then-g-gates_of c =
    let h : c.args.g < gates_of c.args.d.now = omega arith in
    ap (λ (n : ℕ). eqb n c.args.pin.0) c.gate_pin.ensures
    ∙ ap (λ (b : Bool). b && eqb (gate_pin c.args.d.now c.args.g) c.args.pin.0) (sym (lt-ltb _ _ h))

pub returns-else-g-gates_of : goal.returns-else-g-gates_of
returns-else-g-gates_of c =
    let h : gates_of c.args.d.now ≤ c.args.g = omega arith in
    le-ltb _ _ c.if-g-gates_of.false ∙ ap (λ (b : Bool). b && eqb (gate_pin c.args.d.now c.args.g) c.args.pin.0) (sym (le-ltb _ _ h))
