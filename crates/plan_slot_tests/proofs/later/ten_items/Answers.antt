-- An item is passed with seven others where their slots are empty, and these are right.
-- Assumes nothing.
use mathlib.Core.Path.{ap, sym, ◌∙◌}
use Prim.Native.Nat.{ℕ, ◌+◌, ◌*◌, ◌-◌}
use borrow.Author.Rules.{rules}
use Rattle.plan_record.specs.Record.{plan_lanes, slots_of}
use Rattle.words.specs.Found.{item_of}
use Rattle.words.specs.Tests.{first_from}
use Rattle.plan_slots.specs.Slots.{ten_right, over_items}
use Rattle.plan_slot_tests.specs.EmptyRuns.{eighth_empty}
use Rattle.plan_slot_tests.proofs.ItemLaws.{stage_start}
use Rattle.plan_slot_tests.proofs.EmptyRunLaws.{ten_eight}
use Rattle.plan_slot_tests.proofs.later.ten_items.Goals as goal

pub returns : goal.returns
returns c =
    let d = c.args.part.now.d.now in
    let p = c.args.part.now.p in
    let right = ten_right d p in
    let empty = λ (j : ℕ). eighth_empty d p (c.args.s + 1) (32 * c.args.part.now.body.lanes + j) in
    c.first_wrong.ensures right empty (λ j h l b e. search rules) (λ j h l b e. search rules)
    (λ j h e. ten_eight d p c.args.s j (ap (λ (n : ℕ). eighth_empty d p (c.args.s + 1) (32 * n + j)) (sym c.args.part.now.of.lanes) ∙ e))
    ∙ ap (λ (n : ℕ). item_of (first_from (over_items n right) (32 * n - 0) (32 * n * (c.args.s + 1) + 0))) c.args.part.now.of.lanes
    ∙ ap item_of (stage_start (plan_lanes d) (over_items (plan_lanes d) right) (slots_of d * (c.args.s + 1)))
