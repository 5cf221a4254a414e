-- The parts before the last major stage's end.
-- Assumes nothing.
use mathlib.Core.Path.{ap, ◌∙◌}
use Rattle.plan_record.specs.Record.{parts_before}
use Rattle.plan_record.proofs.bodies.parts_of.Goals as goal

pub returns : goal.returns
returns c =
    (c.parts_before.ensures.0 ∙ ap (parts_before c.args.d.now) c.word_at.ensures, c.parts_before.ensures.1)
