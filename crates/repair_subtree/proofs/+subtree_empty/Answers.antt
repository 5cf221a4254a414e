-- `subtree_empty` meets its contract: one law for each way out.
-- Assumes nothing.
use mathlib.Core.Path.{◌≡◌, sym}
use native.Mathlib.Omega.{arith}
use Rattle.words.specs.Pins.{empty}
use Rattle.repair_nodes.specs.Stage.{slot_in}
use Rattle.repair_subtree.proofs.SubtreeLaws.{empty_not, empty_last, empty_on, empty_off}
use Rattle.repair_subtree.proofs.+subtree_empty.Goals as goal

pub returns-then-slot_at : goal.returns-then-slot_at
returns-then-slot_at t c =
    sym (empty_not c.args.slots.now c.args.at.level c.args.at.width c.args.at.index (λ (e : slot_in c.args.slots.now c.args.at.index ≡ empty). omega arith))

pub returns-then-at-eq0 : goal.returns-then-at-eq0
returns-then-at-eq0 t c =
    let e : slot_in c.args.slots.now c.args.at.index ≡ empty = omega arith in
    sym (empty_last c.args.slots.now c.args.at.level c.args.at.width c.args.at.index (omega arith) e)

pub subtree_empty-requires : goal.subtree_empty-requires
subtree_empty-requires t c = omega (arith, c.first.ensures.level)

pub subtree_empty-requires-then-subtree_empty : goal.subtree_empty-requires-then-subtree_empty
subtree_empty-requires-then-subtree_empty t c = omega (arith, c.second.ensures.level)

pub returns-then-subtree_empty : goal.returns-then-subtree_empty
returns-then-subtree_empty t c =
    let e : slot_in c.args.slots.now c.args.at.index ≡ empty = omega arith in
    empty_on c.args.slots.now c.args.at.level c.args.at.width c.args.at.index (omega arith) e c.first.result c.second.result c.first.ensures c.second.ensures
    c.subtree_empty.result c.subtree_empty-then-subtree_empty.result c.subtree_empty.ensures c.if-subtree_empty.true c.subtree_empty-then-subtree_empty.ensures

pub returns : goal.returns
returns t c =
    let e : slot_in c.args.slots.now c.args.at.index ≡ empty = omega arith in
    empty_off c.args.slots.now c.args.at.level c.args.at.width c.args.at.index (omega arith) e c.first.result c.first.ensures c.subtree_empty.result c.subtree_empty.ensures c.if-subtree_empty.false
