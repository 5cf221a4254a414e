-- `plan_slot_tests::standing::pin_right` meets its contract. Both ways out.
-- Assumes nothing.
use mathlib.Core.Path.{◌∙◌}
use borrow.Author.Tests.{eq-eqb}
use Rattle.plan_slot_tests.proofs.SlotTestLaws.{pin_empty, pin_other}
use Rattle.plan_slot_tests.proofs.standing.pin_right.Goals as goal

pub returns-then-pin-eq-EMPTY_PIN : goal.returns-then-pin-eq-EMPTY_PIN
returns-then-pin-eq-EMPTY_PIN c = eq-eqb _ _ c.if-pin-eq-EMPTY_PIN.true ∙ pin_empty c.args.pin.0 c.if-pin-eq-EMPTY_PIN.true

pub returns-else-pin-eq-EMPTY_PIN : goal.returns-else-pin-eq-EMPTY_PIN
returns-else-pin-eq-EMPTY_PIN c = pin_other c.args.pin.0 c.if-pin-eq-EMPTY_PIN.false
