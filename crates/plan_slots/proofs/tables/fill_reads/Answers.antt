-- The slots of level 0 stand behind the positions, as many as the edition has.
-- Assumes nothing.
use mathlib.Core.Path.{◌≡◌, ap, ◌∙◌}
use Prim.Native.Nat.{ℕ, ◌+◌, ◌*◌}
use native.Mathlib.Omega.{arith}
use borrow.Author.Rules.{rules}
use lib.ListN.{length}
use Rattle.plan_record.specs.Record.{slots_of, slot_at, level_at}
use Rattle.plan_slots.specs.Puts.{held_below, filled, read_puts}
use Rattle.plan_slots.proofs.tables.fill_reads.Goals as goal

pub returns : goal.returns
unfolding read_puts
returns c =
    let pin = level_at c.args.part.now.d.now c.args.part.now.p 0 in
    let slots : 32 * c.args.part.now.body.lanes ≡ slots_of c.args.part.now.d.now = omega (arith, c.args.part.now.of.lanes) in
    c.fill.ensures pin (λ k. 0) (λ i h. let e : 32 * c.args.part.now.body.lanes + i ≡ slots_of c.args.part.now.d.now + i = omega (arith, slots) in ap (slot_at c.args.part.now.d.now c.args.part.now.p 0) e) (λ i h x e. search rules)
    ∙ ap (λ (n : ℕ). filled (length c.args.table.now) (held_below pin (λ k. 0) n)) slots
