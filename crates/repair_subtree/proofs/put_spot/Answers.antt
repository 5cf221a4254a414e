-- `repair_subtree::put_spot` meets its contract: two stores.
-- Assumes nothing.
use mathlib.Core.Path.{refl}
use Rattle.repair_subtree.proofs.SubtreeLaws.{added_one}
use Rattle.repair_subtree.proofs.put_spot.Goals as goal

pub returns : goal.returns
returns c =
    added_one c.args.list.now c.args.n c.args.q c.args.node.0 _ _ refl refl
