-- Where all listed pins are right no slot is bad.
-- Assumes nothing.
use mathlib.Core.Path.{sym, ◌∙◌}
use Rattle.plan_positions.proofs.PlannedLaws.{list_held, list_fine}
use Rattle.plan_positions.proofs.planned.bad_pin.Goals as goal

pub pins_right-requires : goal.pins_right-requires
pins_right-requires c =
    (c.requires.0.searched, c.requires.0.wide, list_held c.args.part.now.d.now c.args.part.now.p c.args.part.now.body c.args.room.now c.args.state c.args.n c.requires.0 c.args.list.now c.requires.1 c.requires.2)

pub returns-then-pins_right : goal.returns-then-pins_right
returns-then-pins_right c =
    list_fine c.args.part.now.d.now c.args.part.now.p c.args.part.now.body c.args.room.now c.args.state c.args.n c.requires.0 c.args.list.now c.requires.1 (sym c.pins_right.ensures ∙ c.if-pins_right.true)
