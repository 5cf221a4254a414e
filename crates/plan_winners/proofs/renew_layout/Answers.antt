-- An entry with no pin is passed over; one with a pin is put for it.
-- Assumes nothing.
use Rattle.plan_winners.proofs.WinnerLaws.{layout_empty, layout_put}
use Rattle.plan_winners.proofs.renew_layout.Goals as goal

pub returns-else-pin : goal.returns-else-pin
returns-else-pin c = layout_empty c.args.d.now c.args.table.now c.args.i _ c.layout_pin-pin.ensures c.if-pin.false

pub returns-then-pin : goal.returns-then-pin
returns-then-pin c =
    layout_put c.args.d.now c.args.table.now c.args.i _ c.layout_pin-pin.ensures _ c.if-pin.true c.put_where_there.ensures
