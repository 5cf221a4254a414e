-- `plan_slot_tests::standing::fed_by` meets its contract. One law of SlotTestLaws for each way out.
-- Assumes nothing.
use mathlib.Core.Path.{◌∙◌}
use borrow.Author.Tests.{ne_eqb}
use Rattle.plan_slot_tests.proofs.SlotTestLaws.{fed_missing, fed_first, fed_not}
use Rattle.plan_slot_tests.proofs.standing.fed_by.Goals as goal

pub returns-then-first-a : goal.returns-then-first-a
returns-then-first-a c =
    fed_first c.args.d.now c.args.pin.0 c.args.a.0 c.args.b.0 c.find_gate.result c.find_gate.ensures _ _ _ _ _ c.in-Some.is c.gate_first.ensures c.gate_second.ensures c.pin-first.ensures c.pin-second.ensures c.if-first-a.true

pub returns-else-first-a : goal.returns-else-first-a
returns-else-first-a c =
    ne_eqb _ _ c.if-first-a.false ∙ fed_not c.args.d.now c.args.pin.0 c.args.a.0 c.args.b.0 c.find_gate.result c.find_gate.ensures _ _ _ _ _ c.in-Some.is c.gate_first.ensures c.gate_second.ensures c.pin-first.ensures c.pin-second.ensures c.if-first-a.false

pub returns-in-None : goal.returns-in-None
returns-in-None c =
    fed_missing c.args.d.now c.args.pin.0 c.args.a.0 c.args.b.0 c.find_gate.result c.find_gate.ensures c.in-None.is
