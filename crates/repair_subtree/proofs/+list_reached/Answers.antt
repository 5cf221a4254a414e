-- `list_reached` meets its contract: the list at each step, by the laws of clearing (ListingLaws).
-- Assumes nothing.
use mathlib.Core.Path.{◌≡◌}
use native.Mathlib.Omega.{arith}
use Rattle.words.specs.Pins.{empty}
use Rattle.repair_subtree.proofs.SubtreeLaws.{added_none}
use Rattle.repair_subtree.proofs.ListingLaws.{reach_none, reach_puttable, reach_last, reach_first, reach_second, reach_done}
use Rattle.repair_subtree.proofs.+list_reached.Goals as goal

pub returns-then-node : goal.returns-then-node
returns-then-node t c =
    let a = c.args in
    let z : c.slot_at-node.result.0 ≡ empty = omega arith in
    let e = reach_none a.slots.now a.list.now a.n a.at.level a.at.width a.at.index c.slot_at-node.result.0 c.requires c.slot_at-node.ensures z in
    rw e (added_none a.list.now a.n)

pub put_spot-k-requires : goal.put_spot-k-requires
put_spot-k-requires t c =
    let a = c.args in
    reach_puttable a.slots.now a.list.now a.n a.at.level a.at.width a.at.index c.slot_at-node.result.0 c.requires c.slot_at-node.ensures c.if-node.false a.at.rooted

pub returns-then-at-eq0 : goal.returns-then-at-eq0
returns-then-at-eq0 t c =
    let a = c.args in
    reach_last a.slots.now a.list.now a.n a.at.level a.at.width a.at.index c.slot_at-node.result.0 c.requires
    c.slot_at-node.ensures c.if-node.false c.put_spot-k.new.list c.put_spot-k.result c.if-at-eq0.true c.put_spot-k.ensures

pub list_reached-j-requires : goal.list_reached-j-requires
list_reached-j-requires t c =
    let a = c.args in (
      omega (arith, c.first-first.ensures.level),
      reach_first a.slots.now a.list.now a.n a.at.level a.at.width a.at.index c.slot_at-node.result.0 c.requires
          c.slot_at-node.ensures c.if-node.false (omega arith) c.put_spot-k.new.list c.put_spot-k.result c.put_spot-k.ensures
          c.first-first.result c.second-second.result c.first-first.ensures c.second-second.ensures,
    )

pub list_reached-requires : goal.list_reached-requires
list_reached-requires t c =
    let a = c.args in (
      omega (arith, c.second-second.ensures.level),
      reach_second a.slots.now a.list.now a.n a.at.level a.at.width a.at.index c.slot_at-node.result.0 c.requires
          c.slot_at-node.ensures c.if-node.false (omega arith) c.put_spot-k.new.list c.put_spot-k.result c.put_spot-k.ensures
          c.first-first.result c.second-second.result c.first-first.ensures c.second-second.ensures
          c.list_reached-j.new.list c.list_reached-j.result c.list_reached-j.ensures,
    )

pub returns : goal.returns
returns t c =
    let a = c.args in
    reach_done a.slots.now a.list.now a.n a.at.level a.at.width a.at.index c.slot_at-node.result.0 c.requires
    c.slot_at-node.ensures c.if-node.false (omega arith) c.put_spot-k.new.list c.put_spot-k.result c.put_spot-k.ensures
    c.first-first.result c.second-second.result c.first-first.ensures c.second-second.ensures
    c.list_reached-j.new.list c.list_reached-j.result c.list_reached-j.ensures
    c.list_reached.new.list c.list_reached.result c.list_reached.ensures
