-- `plan_gates::store_gate` meets its contract: a bit that is 0 needs no store.
-- Assumes nothing.
use Rattle.std.proofs.Common.{ap, ◌∙◌}
use Rattle.pinmap.specs.PinMap.{look}
use Rattle.plan_record.specs.Record.{gate_pin}
use Rattle.plan_gates.specs.Gates.{value}
use Rattle.plan_gates.proofs.ValueCodeLaws.{store_none, store_some}
use Rattle.plan_gates.proofs.store_gate.Goals as goal

pub returns-else-value-ne0 : goal.returns-else-value-ne0
returns-else-value-ne0 c =
    let e = c.value.ensures.0 ∙ ap (value c.args.d.now (look c.args.known.now)) c.gate_pin.ensures in
    store_none c.args.bits.now c.args.g (value c.args.d.now (look c.args.known.now) (gate_pin c.args.d.now c.args.g)) _ e c.if-value-ne0.false

pub returns-then-value-ne0 : goal.returns-then-value-ne0
returns-then-value-ne0 c =
    let e = c.value.ensures.0 ∙ ap (value c.args.d.now (look c.args.known.now)) c.gate_pin.ensures in
    c.set_bit.ensures
    ∙ store_some c.args.bits.now c.args.g (value c.args.d.now (look c.args.known.now) (gate_pin c.args.d.now c.args.g)) _ e c.if-value-ne0.true
