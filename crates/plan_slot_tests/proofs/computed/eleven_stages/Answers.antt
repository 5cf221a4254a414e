-- The stages of the part, one run of items after the other.
-- Assumes nothing.
use mathlib.Core.Path.{ap, ◌∙◌}
use borrow.Author.Rules.{rules}
use Rattle.plan_record.specs.Record.{plan_lanes}
use Rattle.words.specs.Found.{item_of}
use Rattle.plan_slots.specs.Slots.{eleven_right, over_items}
use Rattle.plan_slot_tests.proofs.ItemLaws.{stages_all}
use Rattle.plan_slot_tests.proofs.computed.eleven_stages.Goals as goal

pub returns : goal.returns
returns c =
    let d = c.args.part.now.d.now in
    let right = eleven_right d c.args.part.now.p in
    c.first_of_stages.ensures (over_items (plan_lanes d) right) (plan_lanes d) (λ s h r e. search rules)
    ∙ ap item_of (stages_all d right c.args.part.now.p c.args.part.now.body.stages c.args.part.now.of.stages)
