-- `plan_slots::tables::put_slot` meets its contract. One law for an empty slot, one for a put.
-- Assumes nothing.
use mathlib.Core.Path.{sym, ap, ◌∙◌}
use Prim.Native.Nat.{ℕ}
use Rattle.pinmap.specs.PinMap.{put_in}
use Rattle.plan_slots.proofs.PutLaws.{held_none, held_one}
use Rattle.plan_slots.proofs.tables.put_slot.Goals as goal

pub returns-then-pin : goal.returns-then-pin
returns-then-pin c =
    held_none c.args.table.now _ c.args.v (sym c.slot-pin.ensures ∙ c.if-pin.true)

pub returns : goal.returns
returns c =
    c.put.ensures.t_after
    ∙ (ap (λ (x : ℕ). put_in c.args.table.now x c.args.v) c.slot-pin.ensures ∙ held_one c.args.table.now _ c.args.v (λ e. c.if-pin.false (c.slot-pin.ensures ∙ e)))
