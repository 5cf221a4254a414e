-- `gatelist::find_in` meets its contract: a gate that has the pin is the pin's gate, and where the pin has a gate the search by halves ends at it.
-- Assumes nothing.
use Rattle.std.proofs.Common.{sym, ap, ◌∙◌}
use Rattle.words.specs.Found.{item_of}
use Rattle.gatelist.proofs.ListWordLaws.{found_gate, found_none}
use Rattle.gatelist.proofs.find_in.Goals as goal

pub returns-then-has_pin : goal.returns-then-has_pin
returns-then-has_pin c =
    ap item_of (sym (found_gate c.args.l.now c.requires c.args.pin.0 _ (sym c.has_pin.ensures ∙ c.if-has_pin.true)))

pub returns-then-has_pin-2 : goal.returns-then-has_pin-2
returns-then-has_pin-2 c =
    ap item_of (sym (found_gate c.args.l.now c.requires c.args.pin.0 _ (sym c.has_pin-2.ensures ∙ c.if-has_pin-2.true)))

pub returns-else-has_pin-2 : goal.returns-else-has_pin-2
returns-else-has_pin-2 c =
    ap item_of (sym (found_none c.args.l.now c.requires c.args.pin.0 _ c.first_not_below-g.ensures (sym c.has_pin-2.ensures ∙ c.if-has_pin-2.false)))
