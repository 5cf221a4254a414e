use mathlib.Core.Path.{◌≡◌, ap}
use Prim.Native.Nat.{◌*◌}
use native.Mathlib.Omega.{arith}
use lib.ListN.{length, get_or}
use Rattle.repair_list.specs.Relist.{count_in_map}
use Rattle.repair_list.proofs.RelistLaws.{left_from, left_size, left_one_size, left_none_size, left_end}
use Rattle.repair_list.proofs.left_count.Goals as goal
use Rattle.repair_list.proofs.left_count.Goals.{then-number_of-ne0, else-number_of-ne0}

pub loop-i-init : goal.loop-i-init
loop-i-init c =
    (omega arith, omega arith)

pub number_of-requires : goal.number_of-requires
number_of-requires c =
    c.requires c.loop-i.i (omega arith)

pub loop-i-preserved : goal.loop-i-preserved
loop-i-preserved c =
    let x = get_or c.args.counts.now (2 * c.loop-i.i) 0 in
    let z = left_size c.args.map.now c.args.counts.now c.loop-i.i (omega arith) in
    let v : c.number_of.result ≡ count_in_map c.args.map.now x = c.number_of.ensures in
    elim c.if-number_of-ne0.branch [
      | then-number_of-ne0 w ↦
          (omega arith, omega (arith, c.loop-i.invariant.1, left_one_size c.args.map.now x (λ (e : count_in_map c.args.map.now x ≡ 0). omega arith)))
      | else-number_of-ne0 w ↦
          let e : count_in_map c.args.map.now x ≡ 0 = omega arith in
          (omega arith, omega (arith, c.loop-i.invariant.1, left_none_size c.args.map.now x e))
    ]

pub returns : goal.returns
returns c =
    let e = left_end c.args.map.now c.args.counts.now c.loop-i.i (omega arith) in
    let z : length (left_from c.args.map.now c.args.counts.now c.loop-i.i) ≡ 0 = ap length e in
    omega (arith, c.loop-i.invariant.1)
