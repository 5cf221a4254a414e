use mathlib.Core.Path.{ap}
use Prim.Native.Nat.{◌<◌}
use native.Mathlib.Omega.{arith}
use lib.ListN.{length, get_or}
use Rattle.reads.specs.ReadSet.{total}
use Rattle.reads_try.proofs.SetPairLaws.{mask_bits_le}
use Rattle.reads_try.proofs.LaneTableLaws.{row_end, row_stop, row_length-on, row_total_on}
use Rattle.reads_try.proofs.row_load.Goals as goal

pub returns-then-e-eq0 : goal.returns-then-e-eq0
unfolding total
returns-then-e-eq0 c =
    let n = row_stop c.args.set.now c.args.row.now c.loop-pairs.pairs (omega arith) c.if-e-eq0.true in
    omega (arith, ap total n, ap length n)

pub overflow_add-bits : goal.overflow_add-bits
overflow_add-bits c = omega (arith, c.requires.short, mask_bits_le _ _ c.count-bits.ensures)

pub loop-pairs-preserved : goal.loop-pairs-preserved
loop-pairs-preserved c =
    let p : 0 < get_or c.args.row.now c.loop-pairs.pairs 0 = omega arith in
    let h : c.loop-pairs.pairs < length c.args.row.now = omega arith in
    omega (arith, c.count-bits.ensures, row_total_on c.args.set.now c.args.row.now c.loop-pairs.pairs h p, row_length-on c.args.set.now c.args.row.now c.loop-pairs.pairs h p, mask_bits_le _ _ c.count-bits.ensures)

pub returns : goal.returns
unfolding total
returns c =
    let n = row_end c.args.set.now c.args.row.now c.loop-pairs.pairs (omega arith) in
    omega (arith, ap total n, ap length n)
