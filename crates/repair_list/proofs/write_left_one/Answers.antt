-- `repair_list::write_left_one` meets its contract: nothing, or two stores.
-- Assumes nothing.
use mathlib.Core.Path.{◌≡◌}
use Prim.Native.Nat.{◌+◌, ◌*◌, ◌<◌}
use native.Mathlib.Omega.{arith}
use lib.ListN.{length}
use lib.Seq.{lt-length-set}
use Rattle.repair_list.specs.Relist.{count_in_map}
use Rattle.repair_list.proofs.RelistLaws.{left_one_size, entries_put_none, listed_one}
use Rattle.repair_list.proofs.write_left_one.Goals as goal

pub returns-then-count-eq0 : goal.returns-then-count-eq0
returns-then-count-eq0 c =
    let e : count_in_map c.args.map.now c.args.node.0 ≡ 0 = omega (arith, c.number_of-count.ensures) in
    entries_put_none c.args.map.now c.args.after.now c.args.n c.args.node.0 e

pub overflow_mul-after : goal.overflow_mul-after
overflow_mul-after c =
    let k = left_one_size c.args.map.now c.args.node.0 (λ (e : count_in_map c.args.map.now c.args.node.0 ≡ 0). omega (arith, c.number_of-count.ensures)) in
    omega (arith, c.requires.1)

pub bounds-after-n : goal.bounds-after-n
bounds-after-n c =
    let k = left_one_size c.args.map.now c.args.node.0 (λ (e : count_in_map c.args.map.now c.args.node.0 ≡ 0). omega (arith, c.number_of-count.ensures)) in
    omega (arith, c.requires.1)

pub bounds-after-n-2 : goal.bounds-after-n-2
bounds-after-n-2 c =
    let k = left_one_size c.args.map.now c.args.node.0 (λ (e : count_in_map c.args.map.now c.args.node.0 ≡ 0). omega (arith, c.number_of-count.ensures)) in
    let h : 2 * c.args.n + 1 < length c.args.after.now = omega (arith, c.requires.1) in
    lt-length-set c.args.after.now (2 * c.args.n) c.args.node.0 h

pub returns : goal.returns
returns c =
    listed_one c.args.map.now c.args.after.now c.args.n c.args.node.0 c.number_of-count.result c.number_of-count.ensures (λ (e : c.number_of-count.result ≡ 0). omega arith)
