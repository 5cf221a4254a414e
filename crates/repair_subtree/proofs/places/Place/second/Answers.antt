-- `repair_subtree::places::Place::second` meets its contract: the subtree below is inside the stage as the place's is.
-- Assumes nothing.
use mathlib.Core.Path.{refl}
use Prim.Native.Nat.{◌+◌, ◌*◌, ◌<◌}
use native.Mathlib.Omega.{arith}
use Rattle.repair_subtree.proofs.SubtreeLaws.{below_b, below_small}
use Rattle.repair_subtree.proofs.places.Place.second.Goals as goal

pub overflow_mul-result : goal.overflow_mul-result
overflow_mul-result c =
    let b : c.args.self.index + 2 * c.args.self.width < 16384 = below_small c.args.self.level _ _ c.requires c.args.self.rooted in
    omega arith

pub overflow_mul-result-2 : goal.overflow_mul-result-2
overflow_mul-result-2 c =
    let b : c.args.self.index + 2 * c.args.self.width < 16384 = below_small c.args.self.level _ _ c.requires c.args.self.rooted in
    omega arith

pub overflow_add-result : goal.overflow_add-result
overflow_add-result c =
    let b : c.args.self.index + 2 * c.args.self.width < 16384 = below_small c.args.self.level _ _ c.requires c.args.self.rooted in
    omega arith

pub returns : goal.returns
returns c = record { level = refl; width = refl; index = refl }

pub invariant_of-result : goal.invariant_of-result
invariant_of-result c = record { rooted = below_b c.args.self.level c.args.self.width c.args.self.index c.requires c.args.self.rooted }
