-- `repair::purge_at` meets its contract: the list's words are the spots that clearing reaches.
-- Assumes nothing.
use mathlib.Core.Path.{sym}
use mathlib.Core.List.{[]}
use Prim.Native.Nat.{ℕ, ◌*◌, ◌≤◌}
use native.Mathlib.Omega.{arith}
use lib.ListN.{replicate, length-replicate}
use lib.Seq.{length-take-le}
use Rattle.repair_nodes.specs.Clearing.{clearing}
use Rattle.repair_settle.proofs.SpotLaws.{clearing_sound}
use Rattle.repair.proofs.RepairCodeLaws.{clearing_few, list_size, list_spots, list_spotted, small_default, at_cleared}
use Rattle.repair.proofs.purge_at.Goals as goal

pub list_reached-n-requires : goal.list_reached-n-requires
list_reached-n-requires c =
    let h : c.place_of.result.level ≤ 13 = omega (arith, c.place_of.ensures.level, c.requires.0, c.requires.1) in
    let k = clearing_few c.args.slots.now c.place_of.result.level c.place_of.result.width c.place_of.result.index h in
    let e = length-replicate {A = ℕ} 32768 0 in
    record { room = omega arith }

pub overflow_mul-list : goal.overflow_mul-list
overflow_mul-list c =
    let h : c.place_of.result.level ≤ 13 = omega (arith, c.place_of.ensures.level, c.requires.0, c.requires.1) in
    omega (
      arith,
      list_size (replicate 32768 0) c.list_reached-n.new.list
          (clearing c.args.slots.now c.place_of.result.level c.place_of.result.width c.place_of.result.index) c.list_reached-n.result c.list_reached-n.ensures
          (length-replicate {A = ℕ} 32768 0) (clearing_few c.args.slots.now c.place_of.result.level c.place_of.result.width c.place_of.result.index h),
      c.list_reached-n.ensures.size,
      length-replicate {A = ℕ} 32768 0,
    )

pub slice_bounds-list-end : goal.slice_bounds-list-end
slice_bounds-list-end c =
    let h : c.place_of.result.level ≤ 13 = omega (arith, c.place_of.ensures.level, c.requires.0, c.requires.1) in
    list_size (replicate 32768 0) c.list_reached-n.new.list (clearing c.args.slots.now c.place_of.result.level c.place_of.result.width c.place_of.result.index)
    c.list_reached-n.result c.list_reached-n.ensures (length-replicate {A = ℕ} 32768 0)
    (clearing_few c.args.slots.now c.place_of.result.level c.place_of.result.width c.place_of.result.index h)

pub slice_bounds-purge_spots-end : goal.slice_bounds-purge_spots-end
slice_bounds-purge_spots-end c =
    let h : c.place_of.result.level ≤ 13 = omega (arith, c.place_of.ensures.level, c.requires.0, c.requires.1) in
    sym (length-take-le (2 * c.list_reached-n.result) c.list_reached-n.new.list
    (list_size (replicate 32768 0) c.list_reached-n.new.list (clearing c.args.slots.now c.place_of.result.level c.place_of.result.width c.place_of.result.index)
    c.list_reached-n.result c.list_reached-n.ensures (length-replicate {A = ℕ} 32768 0)
    (clearing_few c.args.slots.now c.place_of.result.level c.place_of.result.width c.place_of.result.index h)))

pub purge_spots-requires : goal.purge_spots-requires
purge_spots-requires c =
    let h : c.place_of.result.level ≤ 13 = omega (arith, c.place_of.ensures.level, c.requires.0, c.requires.1) in (
      c.requires.3,
      list_spotted (replicate 32768 0) c.list_reached-n.new.list
          (clearing c.args.slots.now c.place_of.result.level c.place_of.result.width c.place_of.result.index) c.list_reached-n.result c.list_reached-n.ensures
          (length-replicate {A = ℕ} 32768 0) (clearing_few c.args.slots.now c.place_of.result.level c.place_of.result.width c.place_of.result.index h) c.args.height c.requires.0 c.args.slots.now
          (clearing_sound c.args.slots.now _ (small_default c.args.slots.now (λ i. (c.slice_known-1.given i).fits))
          c.place_of.result.level c.place_of.result.width c.place_of.result.index c.place_of.ensures.rooted),
    )

pub returns : goal.returns
returns c =
    let h : c.place_of.result.level ≤ 13 = omega (arith, c.place_of.ensures.level, c.requires.0, c.requires.1) in
    at_cleared c.args.height [] [] c.args.counts.now c.args.slots.now c.args.after.now c.args.level c.args.slot 0 c.place_of.result c.place_of.ensures _ _ _
    (rw (list_spots (replicate 32768 0) c.list_reached-n.new.list
    (clearing c.args.slots.now c.place_of.result.level c.place_of.result.width c.place_of.result.index) c.list_reached-n.result c.list_reached-n.ensures
    (length-replicate {A = ℕ} 32768 0) (clearing_few c.args.slots.now c.place_of.result.level c.place_of.result.width c.place_of.result.index h)) at
    c.purge_spots.ensures)
