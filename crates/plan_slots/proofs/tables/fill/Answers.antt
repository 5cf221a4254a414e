use mathlib.Core.Path.{refl, ap₂, ◌∙◌}
use Prim.Native.Nat.{ℕ}
use native.Mathlib.Omega.{arith}
use lib.ListN.{length}
use Rattle.pinmap.specs.PinMap.{after_puts}
use Rattle.plan_slots.specs.Puts.{held_at}
use Rattle.plan_slots.proofs.PutLaws.{fill_start, fill_more, fill_end}
use Rattle.plan_slots.proofs.tables.fill.Goals as goal

pub loop-i-init : goal.loop-i-init
loop-i-init g c = (refl, λ pin v same told. fill_start pin v _ (length c.args.table.now) c.clear.ensures)

pub loop-i-preserved : goal.loop-i-preserved
loop-i-preserved g c = (
  c.put_slot.auto.table ∙ c.loop-i.invariant.0,
  λ pin v same told.
      let put = c.put_slot.ensures ∙ ap₂ (λ (x y : ℕ). after_puts c.loop-i.table (held_at x y)) (same c.loop-i.i c.loop-i-test.true) (told c.loop-i.i c.loop-i-test.true _ c.value.ensures) in
      (fill_more pin v c.loop-i.table _ c.loop-i.i (c.loop-i.invariant.1 pin v same told) put).1,
)

pub returns : goal.returns
returns g c = λ pin v same told.
    fill_end pin v _ c.loop-i.table (length c.args.table.now) c.args.n c.loop-i.i c.clear.ensures c.loop-i.invariant.0 (c.loop-i.invariant.1 pin v same told) (omega arith)
