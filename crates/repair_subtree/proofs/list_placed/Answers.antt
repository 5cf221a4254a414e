-- `repair_subtree::list_placed` meets its contract: a judged node is at its level or above it.
-- Assumes nothing.
use native.Mathlib.Omega.{arith}
use Rattle.repair_nodes.proofs.JudgeLaws.{judged_known}
use Rattle.repair_subtree.proofs.list_placed.Goals as goal

pub level_of-requires : goal.level_of-requires
level_of-requires c =
    (judged_known c.args.gates.now c.args.levels.now c.args.at.level c.args.node.0 c.requires.judged).0

pub carry_down-requires : goal.carry_down-requires
carry_down-requires c =
    let k = (judged_known c.args.gates.now c.args.levels.now c.args.at.level c.args.node.0 c.requires.judged).1 in
    record { listable = c.requires; under = omega (arith, c.level_of.ensures) }
