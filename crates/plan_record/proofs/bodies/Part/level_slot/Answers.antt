-- The slots of level 0 follow the positions.
-- Assumes nothing.
use mathlib.Core.Path.{◌≡◌, ap, ◌∙◌}
use Prim.Native.Nat.{◌+◌, ◌*◌}
use native.Mathlib.Omega.{arith}
use Rattle.plan_record.specs.Record.{plan_lanes, slot_at}
use Rattle.plan_record.proofs.bodies.Part.level_slot.Goals as goal

pub returns : goal.returns
returns c =
    let e : 32 * c.args.self.now.body.lanes + c.args.j ≡ 32 * plan_lanes c.args.self.now.d.now + c.args.j = omega arith in
    c.slot.ensures ∙ ap (slot_at c.args.self.now.d.now c.args.self.now.p c.args.s) e
