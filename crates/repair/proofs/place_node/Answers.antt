-- `repair::place_node` meets its contract: the list's words are the placing's spots.
-- Assumes nothing.
use mathlib.Core.Path.{sym}
use Prim.Native.Nat.{ℕ, ◌*◌, ◌≤◌}
use native.Mathlib.Omega.{arith}
use lib.ListN.{replicate, length-replicate}
use lib.Seq.{length-take-le}
use Rattle.repair_nodes.specs.Placing.{placing}
use Rattle.repair_settle.proofs.SpotLaws.{placing_sound}
use Rattle.repair.proofs.RepairCodeLaws.{placing_few, list_size, list_spots, list_spotted}
use Rattle.repair.proofs.place_node.Goals as goal

pub list_placed-n-requires : goal.list_placed-n-requires
list_placed-n-requires c =
    let deep : c.args.at.level ≤ 13 = omega (arith, c.requires.1.levels, c.requires.1.level) in
    let k = placing_few c.args.gates.now c.args.levels.now c.args.at.level c.args.at.width c.args.at.index c.args.node.0 deep in
    let e = length-replicate {A = ℕ} 32768 0 in
    record { judged = c.requires.0; room = omega arith }

pub overflow_mul-list : goal.overflow_mul-list
overflow_mul-list c =
    let deep : c.args.at.level ≤ 13 = omega (arith, c.requires.1.levels, c.requires.1.level) in
    omega (
      arith,
      list_size (replicate 32768 0) c.list_placed-n.new.list
          (placing c.args.gates.now c.args.levels.now c.args.at.level c.args.at.width c.args.at.index c.args.node.0) c.list_placed-n.result c.list_placed-n.ensures
          (length-replicate {A = ℕ} 32768 0) (placing_few c.args.gates.now c.args.levels.now c.args.at.level c.args.at.width c.args.at.index c.args.node.0 deep),
      c.list_placed-n.ensures.size,
      length-replicate {A = ℕ} 32768 0,
    )

pub slice_bounds-list-end : goal.slice_bounds-list-end
slice_bounds-list-end c =
    let deep : c.args.at.level ≤ 13 = omega (arith, c.requires.1.levels, c.requires.1.level) in
    list_size (replicate 32768 0) c.list_placed-n.new.list (placing c.args.gates.now c.args.levels.now c.args.at.level c.args.at.width c.args.at.index c.args.node.0)
    c.list_placed-n.result c.list_placed-n.ensures (length-replicate {A = ℕ} 32768 0)
    (placing_few c.args.gates.now c.args.levels.now c.args.at.level c.args.at.width c.args.at.index c.args.node.0 deep)

pub slice_bounds-place_spots-end : goal.slice_bounds-place_spots-end
slice_bounds-place_spots-end c =
    let deep : c.args.at.level ≤ 13 = omega (arith, c.requires.1.levels, c.requires.1.level) in
    sym (length-take-le (2 * c.list_placed-n.result) c.list_placed-n.new.list
    (list_size (replicate 32768 0) c.list_placed-n.new.list (placing c.args.gates.now c.args.levels.now c.args.at.level c.args.at.width c.args.at.index c.args.node.0)
    c.list_placed-n.result c.list_placed-n.ensures (length-replicate {A = ℕ} 32768 0)
    (placing_few c.args.gates.now c.args.levels.now c.args.at.level c.args.at.width c.args.at.index c.args.node.0 deep)))

pub place_spots-requires : goal.place_spots-requires
place_spots-requires c =
    let deep : c.args.at.level ≤ 13 = omega (arith, c.requires.1.levels, c.requires.1.level) in (
      c.requires.2,
      list_spotted (replicate 32768 0) c.list_placed-n.new.list (placing c.args.gates.now c.args.levels.now c.args.at.level c.args.at.width c.args.at.index c.args.node.0)
          c.list_placed-n.result c.list_placed-n.ensures (length-replicate {A = ℕ} 32768 0)
          (placing_few c.args.gates.now c.args.levels.now c.args.at.level c.args.at.width c.args.at.index c.args.node.0 deep) c.args.height c.requires.1.levels c.args.slots.now
          (placing_sound c.args.gates.now c.args.levels.now c.requires.0.gates_right _ c.args.at.level c.args.at.width c.args.at.index c.args.node.0 c.requires.1.pin c.requires.1.rooted),
    )

pub returns : goal.returns
returns c =
    let deep : c.args.at.level ≤ 13 = omega (arith, c.requires.1.levels, c.requires.1.level) in
    rw (list_spots (replicate 32768 0) c.list_placed-n.new.list (placing c.args.gates.now c.args.levels.now c.args.at.level c.args.at.width c.args.at.index c.args.node.0)
    c.list_placed-n.result c.list_placed-n.ensures (length-replicate {A = ℕ} 32768 0)
    (placing_few c.args.gates.now c.args.levels.now c.args.at.level c.args.at.width c.args.at.index c.args.node.0 deep)) at
    c.place_spots.ensures
