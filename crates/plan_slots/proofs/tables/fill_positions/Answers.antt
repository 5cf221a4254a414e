-- The positions of a stage are its slots from index 1 on, one fewer than the edition has.
-- Assumes nothing.
use mathlib.Core.Path.{◌≡◌, ap, ◌∙◌}
use Prim.Native.Nat.{ℕ, ◌+◌, ◌*◌, ◌-◌}
use native.Mathlib.Omega.{arith}
use borrow.Author.Rules.{rules}
use lib.ListN.{length}
use Rattle.plan_record.specs.Record.{slots_of, slot_at}
use Rattle.plan_slots.specs.Puts.{held_below, filled, position_puts}
use Rattle.plan_slots.proofs.tables.fill_positions.Goals as goal

pub returns : goal.returns
unfolding position_puts
returns c =
    let pin = λ (k : ℕ). slot_at c.args.part.now.d.now c.args.part.now.p c.args.s (k + 1) in
    let last : 32 * c.args.part.now.body.lanes - 1 ≡ slots_of c.args.part.now.d.now - 1 = omega (arith, c.args.part.now.of.lanes) in
    c.fill.ensures pin (λ k. k + 1) (λ i h. let e : 1 + i ≡ i + 1 = omega arith in ap (slot_at c.args.part.now.d.now c.args.part.now.p c.args.s) e) (λ i h x e. search rules)
    ∙ ap (λ (n : ℕ). filled (length c.args.table.now) (held_below pin (λ k. k + 1) n)) last
