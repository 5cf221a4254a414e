-- `report_part::outcome::part_outcome`: 5 for the stages, then the set's own outcome, of one origin or the other.
-- Assumes nothing.
use mathlib.Core.Path.{ap, ◌∙◌}
use Rattle.std.specs.Prelude.{Err}
use Rattle.words.specs.Answer.{nowhere}
use Rattle.report_part.proofs.OutcomeLaws.{became_refused, became_same, part_wrong, part_own, part_handed}
use Rattle.report_part.proofs.outcome.part_outcome.Goals as goal

pub returns-then-stages-eq0 : goal.returns-then-stages-eq0
returns-then-stages-eq0 c =
    let b = became_refused c.args.n c.args.set.now _ (nowhere 5) _ (part_wrong c.args.n c.args.set.now c.args.lanes.now c.args.stages c.then-stages-eq0.either) in
    record { value = ap Err c.nowhere.ensures ∙ b.0; lanes_lie = b.1 }

pub returns-then-lanes-eq0 : goal.returns-then-lanes-eq0
returns-then-lanes-eq0 c =
    let told = became_same c.args.n c.args.set.now _ _ _ _ (part_own c.args.n c.args.set.now c.args.lanes.now c.args.stages c.if-stages-eq0.false c.if-stages-gt-STAGES.false c.if-lanes-eq0.true) (c.search.ensures.value, c.search.ensures.lanes_lie) in
    record { value = told.0; lanes_lie = told.1 }

pub returns-else-lanes-eq0 : goal.returns-else-lanes-eq0
returns-else-lanes-eq0 c =
    let told = became_same c.args.n c.args.set.now _ _ _ _ (part_handed c.args.n c.args.set.now c.args.lanes.now c.args.stages c.if-stages-eq0.false c.if-stages-gt-STAGES.false c.if-lanes-eq0.false) (c.judge.ensures.value, c.judge.ensures.lanes_lie) in
    record { value = told.0; lanes_lie = told.1 }
