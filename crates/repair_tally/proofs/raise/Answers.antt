-- `repair_tally::raise` meets its contract: by what the map has.
-- Assumes nothing.
use mathlib.Core.Path.{refl, sym, ◌∙◌}
use native.Mathlib.Omega.{arith}
use Rattle.words.proofs.FoundLaws.{item_some, item_none}
use Rattle.repair_tally.proofs.TallyStepLaws.{put_over, raise_there, raise_over, raise_new}
use Rattle.repair_tally.proofs.raise.Goals as goal

pub returns-else-v : goal.returns-else-v
returns-else-v c =
    rw c.put.ensures.t_after
    (raise_there c.args.map.now c.args.fresh.now c.args.n c.args.node.0 _ (item_some _ _ (sym c.look_up.ensures ∙ c.in-Some.is)) (omega arith) (omega arith))

pub returns-then-v : goal.returns-then-v
returns-then-v c =
    raise_over c.args.map.now c.args.fresh.now c.args.n c.args.node.0 _ (item_some _ _ (sym c.look_up.ensures ∙ c.in-Some.is)) (omega arith)

pub returns-in-None : goal.returns-in-None
returns-in-None c =
    rw c.put-in-None.ensures.t_after
    (raise_new c.args.map.now c.args.fresh.now c.args.n c.args.node.0 (item_none _ (sym c.look_up.ensures ∙ c.in-None.is)) c.requires.1)

pub unwrap-requires : goal.unwrap-requires
unwrap-requires c =
    rw (c.put.ensures.value, put_over c.args.map.now c.args.node.0 _ (item_some _ _ (sym c.look_up.ensures ∙ c.in-Some.is))) refl
