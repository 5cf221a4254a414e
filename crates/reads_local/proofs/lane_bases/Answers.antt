use mathlib.Core.Path.{◌≡◌, refl}
use Prim.Native.Nat.{◌*◌}
use native.Mathlib.Omega.{arith}
use Rattle.reads_try.proofs.SetPairLaws.{mask_bits_le}
use Rattle.reads_local.proofs.BaseLaws.{walked_start, walked_entry, walked_sum, walked_on}
use Rattle.reads_local.proofs.lane_bases.Goals as goal

pub loop-r-init : goal.loop-r-init
loop-r-init c =
    let first : c.of-first.result.0 ≡ 32 * c.args.j = omega (arith, c.of-first.ensures) in
    rw first (walked_start c.args.set.now c.args.table.now c.args.j c.requires.0 c.args.bases.now _ c.lane_load-held.ensures.1)

pub overflow_sub-bases : goal.overflow_sub-bases
overflow_sub-bases c =
    omega (arith, walked_entry c.args.set.now c.args.table.now c.args.j c.requires.0 c.args.bases.now c.loop-r.bases c.loop-r.r c.loop-r.sum _ c.loop-r.invariant (omega arith) refl)

pub bounds-bases-e : goal.bounds-bases-e
bounds-bases-e c =
    omega (arith, c.requires.2, walked_entry c.args.set.now c.args.table.now c.args.j c.requires.0 c.args.bases.now c.loop-r.bases c.loop-r.r c.loop-r.sum _ c.loop-r.invariant (omega arith) refl)

pub overflow_sub-e : goal.overflow_sub-e
overflow_sub-e c =
    omega (arith, walked_entry c.args.set.now c.args.table.now c.args.j c.requires.0 c.args.bases.now c.loop-r.bases c.loop-r.r c.loop-r.sum _ c.loop-r.invariant (omega arith) refl)

pub bounds-set-e : goal.bounds-set-e
bounds-set-e c =
    omega (arith, walked_entry c.args.set.now c.args.table.now c.args.j c.requires.0 c.args.bases.now c.loop-r.bases c.loop-r.r c.loop-r.sum _ c.loop-r.invariant (omega arith) refl)

pub overflow_add-sum : goal.overflow_add-sum
overflow_add-sum c =
    omega (arith, walked_sum c.args.set.now c.args.table.now c.args.j c.requires.0 c.args.bases.now c.loop-r.bases c.loop-r.r c.loop-r.sum _ c.loop-r.invariant (omega arith) refl, mask_bits_le _ _ c.count-sum.ensures)

pub loop-r-preserved : goal.loop-r-preserved
loop-r-preserved c =
    walked_on c.args.set.now c.args.table.now c.args.j c.requires.0 c.args.bases.now c.loop-r.bases c.loop-r.r c.loop-r.sum _ c.loop-r.invariant (omega arith) refl _ _ refl c.count-sum.ensures
