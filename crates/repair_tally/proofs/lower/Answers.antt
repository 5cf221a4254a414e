-- `repair_tally::lower` meets its contract: by what the map has.
-- Assumes nothing.
use mathlib.Core.Path.{refl, sym, ap, ◌∙◌}
use mathlib.Core.Option.{some}
use native.Mathlib.Omega.{arith}
use Rattle.words.proofs.FoundLaws.{item_some, item_none}
use Rattle.repair_tally.proofs.TallyStepLaws.{put_over, lower_missing, lower_zero, lower_there}
use Rattle.repair_tally.proofs.lower.Goals as goal

pub returns-else-v-eq0 : goal.returns-else-v-eq0
returns-else-v-eq0 c =
    lower_there c.args.map.now c.args.node.0 _ (item_some _ _ (sym c.look_up.ensures ∙ c.in-Some.is)) (omega arith) ∙ ap some (sym c.put.ensures.t_after)

pub returns-then-v-eq0 : goal.returns-then-v-eq0
returns-then-v-eq0 c =
    lower_zero c.args.map.now c.args.node.0 _ (item_some _ _ (sym c.look_up.ensures ∙ c.in-Some.is)) (omega arith)

pub returns-in-None : goal.returns-in-None
returns-in-None c =
    lower_missing c.args.map.now c.args.node.0 (item_none _ (sym c.look_up.ensures ∙ c.in-None.is))

pub unwrap-requires : goal.unwrap-requires
unwrap-requires c =
    rw (c.put.ensures.value, put_over c.args.map.now c.args.node.0 _ (item_some _ _ (sym c.look_up.ensures ∙ c.in-Some.is))) refl
