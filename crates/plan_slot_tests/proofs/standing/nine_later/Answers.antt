-- An item is passed with seven others where their slots and positions are empty, and these are right.
-- Assumes nothing.
use mathlib.Core.Path.{ap, ◌∙◌}
use mathlib.Core.Bool.{◌&&◌}
use Prim.Native.Nat.{ℕ, ◌+◌, ◌*◌, ◌-◌}
use borrow.Author.Rules.{rules}
use Rattle.plan_record.specs.Record.{slots_of}
use Rattle.words.specs.Found.{item_of}
use Rattle.words.specs.Tests.{first_from}
use Rattle.plan_slots.specs.Slots.{nine_right, over_items}
use Rattle.plan_slot_tests.specs.EmptyRuns.{eighth_empty}
use Rattle.plan_slot_tests.proofs.EmptyRunLaws.{nine_eight}
use Rattle.plan_slot_tests.proofs.standing.nine_later.Goals as goal

pub returns : goal.returns
returns c =
    let d = c.args.part.now.d.now in
    let p = c.args.part.now.p in
    let right = nine_right d p in
    let empty = λ (x : ℕ). eighth_empty d p c.args.s x && eighth_empty d p c.args.s (slots_of d + x) in
    c.first_wrong.ensures right empty (λ x h l b e. search rules) (λ x h l b e. search rules) (λ x h e. nine_eight d p c.args.s x h e)
    ∙ ap (λ (n : ℕ). item_of (first_from (over_items n right) (32 * n - 1) (32 * n * c.args.s + 1))) c.args.part.now.of.lanes
