-- The slots of level 0 are the edition's.
-- Assumes nothing.
use mathlib.Core.Path.{◌≡◌, ap, ◌∙◌}
use Prim.Native.Nat.{ℕ, ◌*◌}
use native.Mathlib.Omega.{arith}
use borrow.Author.Rules.{rules}
use Rattle.plan_record.specs.Record.{slots_of}
use Rattle.words.specs.Found.{item_of}
use Rattle.words.specs.Tests.{first_not}
use Rattle.plan_positions.specs.Positions.{twelve_right}
use Rattle.plan_positions.proofs.planned.bad_slot.Goals as goal

pub returns : goal.returns
returns c =
    let slots : 32 * c.args.part.now.body.lanes ≡ slots_of c.args.part.now.d.now = omega (arith, c.args.part.now.of.lanes) in
    let right = twelve_right c.args.part.now.d.now c.args.part.now.p in
    c.first_not.ensures right (λ i h b e. search rules) ∙ ap (λ (n : ℕ). item_of (first_not right n)) slots
