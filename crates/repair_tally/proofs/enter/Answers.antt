-- `repair_tally::enter` meets its contract: by the tests, in the definition's order.
-- Assumes nothing.
use mathlib.Core.Path.{sym, ap, ◌∙◌}
use mathlib.Core.Option.{some}
use native.Mathlib.Omega.{arith}
use Rattle.words.proofs.FoundLaws.{item_some, item_none}
use Rattle.repair_tally.proofs.TallyStepLaws.{enter_no_pin, enter_zero, enter_twice, enter_new}
use Rattle.repair_tally.proofs.enter.Goals as goal

pub returns-then-node-gt1073741824 : goal.returns-then-node-gt1073741824
returns-then-node-gt1073741824 c =
    enter_no_pin c.args.map.now c.args.node.0 c.args.count (omega arith)

pub returns-then-count-eq0 : goal.returns-then-count-eq0
returns-then-count-eq0 c =
    enter_zero c.args.map.now c.args.node.0 c.args.count (omega arith)

pub returns-in-Some : goal.returns-in-Some
returns-in-Some c =
    enter_twice c.args.map.now c.args.node.0 c.args.count _ (omega arith) (omega arith) (item_some _ _ (sym c.look_up.ensures ∙ c.in-Some.is))

pub returns-in-None : goal.returns-in-None
returns-in-None c =
    enter_new c.args.map.now c.args.node.0 c.args.count (omega arith) (omega arith) (item_none _ (sym c.look_up.ensures ∙ c.in-None.is))
    ∙ ap some (sym c.put.ensures.t_after)
