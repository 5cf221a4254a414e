-- The cycle of `carry_down` and `split_gate`: the list at each step, by the laws of placing (ListingLaws).
-- Assumes nothing.
use mathlib.Core.Path.{◌≡◌, sym, ◌∙◌}
use mathlib.Core.Option.{some}
use Prim.Native.Nat.{◌-◌, ◌/◌, ◌<◌}
use native.Mathlib.Omega.{arith}
use Rattle.words.proofs.FoundLaws.{item_some}
use Rattle.gatelist.specs.ListWords.{list_first, list_second, gate_in}
use Rattle.gatelist.proofs.ListWordLaws.{found_whole}
use Rattle.repair_nodes.specs.Placing.{node_level}
use Rattle.repair_subtree.specs.Subtree.{Added}
use Rattle.repair_subtree.proofs.SubtreeLaws.{added_is}
use Rattle.repair_subtree.proofs.ListingLaws.{placing_at, listable_puttable, listable_known, carry_listable, carry_done, split_last, split_found, first_known, second_known, first_listable, second_listable, split_done}
use Rattle.repair_subtree.proofs.+carry_down_split_gate.Goals as goal
use Rattle.repair_subtree.proofs.+carry_down_split_gate.Goals.{split_gate-then-level_of-first, split_gate-else-level_of-first}

pub carry_down-put_spot-k-requires : goal.carry_down-put_spot-k-requires
carry_down-put_spot-k-requires t c = let a = c.args in listable_puttable a.gates.now a.levels.now a.list.now a.n a.at.level a.at.width a.at.index a.node.0 a.at.rooted c.requires.listable

pub carry_down-level_of-requires : goal.carry_down-level_of-requires
carry_down-level_of-requires t c = let a = c.args in (listable_known a.gates.now a.levels.now a.list.now a.n a.at.level a.at.width a.at.index a.node.0 c.requires.listable).0

pub carry_down-split_gate-requires : goal.carry_down-split_gate-requires
carry_down-split_gate-requires t c =
    let a = c.args in
    let e : c.first-below.result.level ≡ a.at.level - 1 = c.first-below.ensures.level in
    let u : node_level a.levels.now a.node.0 < a.at.level = c.requires.under in (
      omega arith,
      record {
        listable = carry_listable a.gates.now a.levels.now a.list.now a.n a.at.level a.at.width a.at.index a.node.0 c.requires c.put_spot-k.new.list c.put_spot-k.result c.put_spot-k.ensures c.first-below.result c.first-below.ensures;
        level = omega (arith, c.level_of.ensures);
      },
    )

pub carry_down-returns-then-level_of-below : goal.carry_down-returns-then-level_of-below
carry_down-returns-then-level_of-below t c =
    let a = c.args in
    carry_done a.gates.now a.levels.now a.list.now a.n a.at.level a.at.width a.at.index a.node.0 c.requires c.put_spot-k.new.list c.put_spot-k.result c.put_spot-k.ensures
    c.first-below.result c.first-below.ensures c.split_gate.new.list c.split_gate.result c.split_gate.ensures

pub carry_down-carry_down-requires : goal.carry_down-carry_down-requires
carry_down-carry_down-requires t c =
    let a = c.args in
    let e : c.first-below.result.level ≡ a.at.level - 1 = c.first-below.ensures.level in
    let u : node_level a.levels.now a.node.0 < a.at.level = c.requires.under in (
      omega arith,
      record {
        listable = carry_listable a.gates.now a.levels.now a.list.now a.n a.at.level a.at.width a.at.index a.node.0 c.requires c.put_spot-k.new.list c.put_spot-k.result c.put_spot-k.ensures c.first-below.result c.first-below.ensures;
        under = omega (arith, c.level_of.ensures);
      },
    )

pub carry_down-returns : goal.carry_down-returns
carry_down-returns t c =
    let a = c.args in
    carry_done a.gates.now a.levels.now a.list.now a.n a.at.level a.at.width a.at.index a.node.0 c.requires c.put_spot-k.new.list c.put_spot-k.result c.put_spot-k.ensures
    c.first-below.result c.first-below.ensures c.carry_down.new.list c.carry_down.result c.carry_down.ensures

pub split_gate-put_spot-k-requires : goal.split_gate-put_spot-k-requires
split_gate-put_spot-k-requires t c = let a = c.args in listable_puttable a.gates.now a.levels.now a.list.now a.n a.at.level a.at.width a.at.index a.node.0 a.at.rooted c.requires.listable

pub split_gate-returns-then-at-eq0 : goal.split_gate-returns-then-at-eq0
split_gate-returns-then-at-eq0 t c =
    let a = c.args in
    split_last a.gates.now a.levels.now a.list.now a.n a.at.level a.at.width a.at.index a.node.0 c.put_spot-k.new.list c.put_spot-k.result c.if-at-eq0.true c.put_spot-k.ensures

pub split_gate-unwrap-g-requires : goal.split_gate-unwrap-g-requires
split_gate-unwrap-g-requires t c =
    let a = c.args in
    rw c.find_in.ensures (split_found a.gates.now a.levels.now a.list.now a.n a.at.level a.at.width a.at.index a.node.0 c.requires (omega arith))

pub split_gate-first_of-requires : goal.split_gate-first_of-requires
split_gate-first_of-requires t c =
    found_whole c.args.gates.now c.requires.listable.judged.gates_right c.args.node.0 _ (item_some _ _ (sym c.find_in.ensures ∙ c.unwrap-g.ensures))

pub split_gate-second_of-requires : goal.split_gate-second_of-requires
split_gate-second_of-requires t c =
    found_whole c.args.gates.now c.requires.listable.judged.gates_right c.args.node.0 _ (item_some _ _ (sym c.find_in.ensures ∙ c.unwrap-g.ensures))

pub split_gate-level_of-requires : goal.split_gate-level_of-requires
split_gate-level_of-requires t c =
    let a = c.args in
    let g = c.unwrap-g.result in
    let o : gate_in a.gates.now a.node.0 ≡ some g = item_some _ _ (sym c.find_in.ensures ∙ c.unwrap-g.ensures) in
    let u : c.pin-a.result.0 ≡ list_first a.gates.now g / 2 = omega (arith, c.pin-a.ensures, c.first_of.ensures) in
    let v : c.pin-b.result.0 ≡ list_second a.gates.now g / 2 = omega (arith, c.pin-b.ensures, c.second_of.ensures) in
    let q : 0 < a.at.level = omega arith in
    (first_known a.gates.now a.levels.now a.list.now a.n a.at.level a.at.width a.at.index a.node.0 c.requires q g o c.pin-a.result.0 c.pin-b.result.0 u v).0

pub split_gate-split_gate-k-requires : goal.split_gate-split_gate-k-requires
split_gate-split_gate-k-requires t c =
    let a = c.args in
    let g = c.unwrap-g.result in
    let o : gate_in a.gates.now a.node.0 ≡ some g = item_some _ _ (sym c.find_in.ensures ∙ c.unwrap-g.ensures) in
    let u : c.pin-a.result.0 ≡ list_first a.gates.now g / 2 = omega (arith, c.pin-a.ensures, c.first_of.ensures) in
    let v : c.pin-b.result.0 ≡ list_second a.gates.now g / 2 = omega (arith, c.pin-b.ensures, c.second_of.ensures) in
    let q : 0 < a.at.level = omega arith in
    let e : c.first-first.result.level ≡ a.at.level - 1 = c.first-first.ensures.level in
    let k = (first_known a.gates.now a.levels.now a.list.now a.n a.at.level a.at.width a.at.index a.node.0 c.requires q g o c.pin-a.result.0 c.pin-b.result.0 u v).1 in (
      omega arith,
      record {
        listable = first_listable a.gates.now a.levels.now a.list.now a.n a.at.level a.at.width a.at.index a.node.0 c.requires q g o c.pin-a.result.0 c.pin-b.result.0 u v
            c.put_spot-k.new.list c.put_spot-k.result c.put_spot-k.ensures c.first-first.result c.second-second.result c.first-first.ensures c.second-second.ensures;
        level = omega (arith, c.level_of.ensures);
      },
    )

pub split_gate-carry_down-k-requires : goal.split_gate-carry_down-k-requires
split_gate-carry_down-k-requires t c =
    let a = c.args in
    let g = c.unwrap-g.result in
    let o : gate_in a.gates.now a.node.0 ≡ some g = item_some _ _ (sym c.find_in.ensures ∙ c.unwrap-g.ensures) in
    let u : c.pin-a.result.0 ≡ list_first a.gates.now g / 2 = omega (arith, c.pin-a.ensures, c.first_of.ensures) in
    let v : c.pin-b.result.0 ≡ list_second a.gates.now g / 2 = omega (arith, c.pin-b.ensures, c.second_of.ensures) in
    let q : 0 < a.at.level = omega arith in
    let e : c.first-first.result.level ≡ a.at.level - 1 = c.first-first.ensures.level in
    let k = (first_known a.gates.now a.levels.now a.list.now a.n a.at.level a.at.width a.at.index a.node.0 c.requires q g o c.pin-a.result.0 c.pin-b.result.0 u v).1 in (
      omega arith,
      record {
        listable = first_listable a.gates.now a.levels.now a.list.now a.n a.at.level a.at.width a.at.index a.node.0 c.requires q g o c.pin-a.result.0 c.pin-b.result.0 u v
            c.put_spot-k.new.list c.put_spot-k.result c.put_spot-k.ensures c.first-first.result c.second-second.result c.first-first.ensures c.second-second.ensures;
        under = omega (arith, c.level_of.ensures);
      },
    )

pub split_gate-level_of-requires-2 : goal.split_gate-level_of-requires-2
split_gate-level_of-requires-2 t c =
    let a = c.args in
    let g = c.unwrap-g.result in
    let o : gate_in a.gates.now a.node.0 ≡ some g = item_some _ _ (sym c.find_in.ensures ∙ c.unwrap-g.ensures) in
    let u : c.pin-a.result.0 ≡ list_first a.gates.now g / 2 = omega (arith, c.pin-a.ensures, c.first_of.ensures) in
    let v : c.pin-b.result.0 ≡ list_second a.gates.now g / 2 = omega (arith, c.pin-b.ensures, c.second_of.ensures) in
    let q : 0 < a.at.level = omega arith in
    (second_known a.gates.now a.levels.now a.list.now a.n a.at.level a.at.width a.at.index a.node.0 c.requires q g o c.pin-a.result.0 c.pin-b.result.0 u v).0

pub split_gate-split_gate-requires : goal.split_gate-split_gate-requires
split_gate-split_gate-requires t c =
    let a = c.args in
    let g = c.unwrap-g.result in
    let o : gate_in a.gates.now a.node.0 ≡ some g = item_some _ _ (sym c.find_in.ensures ∙ c.unwrap-g.ensures) in
    let u : c.pin-a.result.0 ≡ list_first a.gates.now g / 2 = omega (arith, c.pin-a.ensures, c.first_of.ensures) in
    let v : c.pin-b.result.0 ≡ list_second a.gates.now g / 2 = omega (arith, c.pin-b.ensures, c.second_of.ensures) in
    let q : 0 < a.at.level = omega arith in
    let m : Added c.put_spot-k.new.list c.put_spot-k.result (placing_at a.gates.now a.levels.now c.first-first.result c.pin-a.result.0) c.if-level_of-first.list c.if-level_of-first.k =
    elim c.if-level_of-first.branch [
      | split_gate-then-level_of-first w ↦ added_is _ _ _ _ _ _ _ w.split_gate-k.ensures w.list-is w.k-is
      | split_gate-else-level_of-first w ↦ added_is _ _ _ _ _ _ _ w.carry_down-k.ensures w.list-is w.k-is
    ] in
    let e : c.second-second.result.level ≡ a.at.level - 1 = c.second-second.ensures.level in
    let k = (second_known a.gates.now a.levels.now a.list.now a.n a.at.level a.at.width a.at.index a.node.0 c.requires q g o c.pin-a.result.0 c.pin-b.result.0 u v).1 in (
      omega arith,
      record {
        listable = second_listable a.gates.now a.levels.now a.list.now a.n a.at.level a.at.width a.at.index a.node.0 c.requires q g o c.pin-a.result.0 c.pin-b.result.0 u v
            c.put_spot-k.new.list c.put_spot-k.result c.put_spot-k.ensures c.first-first.result c.second-second.result c.first-first.ensures c.second-second.ensures c.if-level_of-first.list c.if-level_of-first.k m;
        level = omega (arith, c.level_of-2.ensures);
      },
    )

pub split_gate-returns-then-level_of-second : goal.split_gate-returns-then-level_of-second
split_gate-returns-then-level_of-second t c =
    let a = c.args in
    let g = c.unwrap-g.result in
    let o : gate_in a.gates.now a.node.0 ≡ some g = item_some _ _ (sym c.find_in.ensures ∙ c.unwrap-g.ensures) in
    let u : c.pin-a.result.0 ≡ list_first a.gates.now g / 2 = omega (arith, c.pin-a.ensures, c.first_of.ensures) in
    let v : c.pin-b.result.0 ≡ list_second a.gates.now g / 2 = omega (arith, c.pin-b.ensures, c.second_of.ensures) in
    let q : 0 < a.at.level = omega arith in
    let m : Added c.put_spot-k.new.list c.put_spot-k.result (placing_at a.gates.now a.levels.now c.first-first.result c.pin-a.result.0) c.if-level_of-first.list c.if-level_of-first.k =
    elim c.if-level_of-first.branch [
      | split_gate-then-level_of-first w ↦ added_is _ _ _ _ _ _ _ w.split_gate-k.ensures w.list-is w.k-is
      | split_gate-else-level_of-first w ↦ added_is _ _ _ _ _ _ _ w.carry_down-k.ensures w.list-is w.k-is
    ] in
    split_done a.gates.now a.levels.now a.list.now a.n a.at.level a.at.width a.at.index a.node.0 c.requires q g o c.pin-a.result.0 c.pin-b.result.0 u v
    c.put_spot-k.new.list c.put_spot-k.result c.put_spot-k.ensures c.first-first.result c.second-second.result c.first-first.ensures c.second-second.ensures
    c.if-level_of-first.list c.if-level_of-first.k m c.split_gate.new.list c.split_gate.result c.split_gate.ensures

pub split_gate-carry_down-requires : goal.split_gate-carry_down-requires
split_gate-carry_down-requires t c =
    let a = c.args in
    let g = c.unwrap-g.result in
    let o : gate_in a.gates.now a.node.0 ≡ some g = item_some _ _ (sym c.find_in.ensures ∙ c.unwrap-g.ensures) in
    let u : c.pin-a.result.0 ≡ list_first a.gates.now g / 2 = omega (arith, c.pin-a.ensures, c.first_of.ensures) in
    let v : c.pin-b.result.0 ≡ list_second a.gates.now g / 2 = omega (arith, c.pin-b.ensures, c.second_of.ensures) in
    let q : 0 < a.at.level = omega arith in
    let m : Added c.put_spot-k.new.list c.put_spot-k.result (placing_at a.gates.now a.levels.now c.first-first.result c.pin-a.result.0) c.if-level_of-first.list c.if-level_of-first.k =
    elim c.if-level_of-first.branch [
      | split_gate-then-level_of-first w ↦ added_is _ _ _ _ _ _ _ w.split_gate-k.ensures w.list-is w.k-is
      | split_gate-else-level_of-first w ↦ added_is _ _ _ _ _ _ _ w.carry_down-k.ensures w.list-is w.k-is
    ] in
    let e : c.second-second.result.level ≡ a.at.level - 1 = c.second-second.ensures.level in
    let k = (second_known a.gates.now a.levels.now a.list.now a.n a.at.level a.at.width a.at.index a.node.0 c.requires q g o c.pin-a.result.0 c.pin-b.result.0 u v).1 in (
      omega arith,
      record {
        listable = second_listable a.gates.now a.levels.now a.list.now a.n a.at.level a.at.width a.at.index a.node.0 c.requires q g o c.pin-a.result.0 c.pin-b.result.0 u v
            c.put_spot-k.new.list c.put_spot-k.result c.put_spot-k.ensures c.first-first.result c.second-second.result c.first-first.ensures c.second-second.ensures c.if-level_of-first.list c.if-level_of-first.k m;
        under = omega (arith, c.level_of-2.ensures);
      },
    )

pub split_gate-returns : goal.split_gate-returns
split_gate-returns t c =
    let a = c.args in
    let g = c.unwrap-g.result in
    let o : gate_in a.gates.now a.node.0 ≡ some g = item_some _ _ (sym c.find_in.ensures ∙ c.unwrap-g.ensures) in
    let u : c.pin-a.result.0 ≡ list_first a.gates.now g / 2 = omega (arith, c.pin-a.ensures, c.first_of.ensures) in
    let v : c.pin-b.result.0 ≡ list_second a.gates.now g / 2 = omega (arith, c.pin-b.ensures, c.second_of.ensures) in
    let q : 0 < a.at.level = omega arith in
    let m : Added c.put_spot-k.new.list c.put_spot-k.result (placing_at a.gates.now a.levels.now c.first-first.result c.pin-a.result.0) c.if-level_of-first.list c.if-level_of-first.k =
    elim c.if-level_of-first.branch [
      | split_gate-then-level_of-first w ↦ added_is _ _ _ _ _ _ _ w.split_gate-k.ensures w.list-is w.k-is
      | split_gate-else-level_of-first w ↦ added_is _ _ _ _ _ _ _ w.carry_down-k.ensures w.list-is w.k-is
    ] in
    split_done a.gates.now a.levels.now a.list.now a.n a.at.level a.at.width a.at.index a.node.0 c.requires q g o c.pin-a.result.0 c.pin-b.result.0 u v
    c.put_spot-k.new.list c.put_spot-k.result c.put_spot-k.ensures c.first-first.result c.second-second.result c.first-first.ensures c.second-second.ensures
    c.if-level_of-first.list c.if-level_of-first.k m c.carry_down.new.list c.carry_down.result c.carry_down.ensures
