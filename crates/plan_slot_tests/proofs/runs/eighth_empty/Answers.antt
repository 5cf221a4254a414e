-- `plan_slot_tests::runs::eighth_empty` meets its contract. Both ways out.
-- Assumes nothing.
use mathlib.Core.Path.{◌∙◌}
use borrow.Author.Tests.{ne_eqb}
use Rattle.plan_slot_tests.proofs.EmptyRunLaws.{eighth_here, eighth_not}
use Rattle.plan_slot_tests.proofs.runs.eighth_empty.Goals as goal

pub returns-then-q-eq0 : goal.returns-then-q-eq0
returns-then-q-eq0 c =
    c.eight_empty.ensures ∙ eighth_here c.args.part.now.d.now c.args.part.now.p c.args.s c.args.q c.if-q-eq0.true

pub returns-else-q-eq0 : goal.returns-else-q-eq0
returns-else-q-eq0 c =
    ne_eqb _ _ c.if-q-eq0.false ∙ eighth_not c.args.part.now.d.now c.args.part.now.p c.args.s c.args.q c.if-q-eq0.false
