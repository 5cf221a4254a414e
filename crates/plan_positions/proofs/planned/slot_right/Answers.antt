-- An empty slot; a pin whose entry the table has.
-- Assumes nothing.
use mathlib.Core.Path.{sym, ◌∙◌}
use native.Mathlib.Omega.{arith}
use Rattle.plan_positions.proofs.PlannedLaws.{slot_empty, slot_there, slot_by}
use Rattle.plan_positions.proofs.planned.slot_right.Goals as goal

pub returns-then-pin : goal.returns-then-pin
returns-then-pin c =
    slot_empty c.args.part.now.d.now c.args.part.now.p c.args.j (sym c.level_slot-pin.ensures ∙ c.if-pin.true)

pub pin_right-requires : goal.pin_right-requires
pin_right-requires c = (
  c.requires.0.searched,
  c.requires.0.wide,
  slot_there c.args.part.now.d.now c.args.part.now.p c.args.part.now.body c.args.room.now c.args.state c.args.n c.requires.0 c.args.j
      c.level_slot-pin.result.0 (omega (arith, c.requires.1, c.requires.0.body.lanes)) c.level_slot-pin.ensures c.if-pin.false (omega arith),
)

pub returns : goal.returns
returns c =
    slot_by c.args.part.now.d.now c.args.part.now.p c.args.part.now.body c.args.room.now c.args.state c.args.n c.requires.0 c.args.j c.level_slot-pin.result.0 _ c.level_slot-pin.ensures c.if-pin.false c.pin_right.ensures
