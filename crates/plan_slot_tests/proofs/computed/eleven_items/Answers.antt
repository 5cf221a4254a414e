-- Item 0 has no position. Another is passed with seven others where their positions are empty, and these are right.
-- Assumes nothing.
use mathlib.Core.Path.{ap, ◌∙◌}
use Prim.Native.Nat.{ℕ, ◌+◌, ◌*◌, ◌-◌}
use borrow.Author.Rules.{rules}
use Rattle.plan_record.specs.Record.{plan_lanes}
use Rattle.plan_record.proofs.RecordLaws.{lanes_range}
use Rattle.words.specs.Found.{item_of}
use Rattle.words.specs.Tests.{first_from}
use Rattle.plan_slots.specs.Slots.{eleven_right, over_items}
use Rattle.plan_slot_tests.specs.EmptyRuns.{eighth_empty}
use Rattle.plan_slot_tests.proofs.ItemLaws.{zero_right}
use Rattle.plan_slot_tests.proofs.SlotTestLaws.{eleven_zero}
use Rattle.plan_slot_tests.proofs.EmptyRunLaws.{eleven_eight}
use Rattle.plan_slot_tests.proofs.computed.eleven_items.Goals as goal

pub returns : goal.returns
returns c =
    let d = c.args.part.now.d.now in
    let p = c.args.part.now.p in
    let right = eleven_right d p in
    c.first_wrong.ensures right (eighth_empty d p c.args.s) (λ q h l b e. search rules) (λ q h l b e. search rules) (λ q h e. eleven_eight d p c.args.s q h e)
    ∙ ap (λ (n : ℕ). item_of (first_from (over_items n right) (32 * n - 1) (32 * n * c.args.s + 1))) c.args.part.now.of.lanes
    ∙ ap item_of (zero_right (plan_lanes d) right c.args.s (lanes_range d).0 (eleven_zero d p c.args.s))
