-- `report_part::counts::gain_of` meets its contract: what is counted over the table is the definition's gain, by the laws of a packing. Assumes nothing.
use mathlib.Core.Path.{◌≡◌, ap}
use Prim.Native.Nat.{◌*◌, ◌-◌, ◌/◌, ◌≤◌}
use native.Mathlib.Omega.{arith}
use lib.ListN.{length}
use Rattle.reads.specs.Search.{longest}
use Rattle.reads_try.specs.TableLanes.{lanes_at}
use Rattle.report_part.specs.declared.counts.Counted.{Counted}
use Rattle.report_part.proofs.GainLaws.{rounds_few, rounds_fit, pairs_inside, gain_is}
use Rattle.report_part.proofs.counts.gain_of.Goals as goal

pub overflow_mul-result : goal.overflow_mul-result
overflow_mul-result c =
    let rounds-in : let a = c.args in c.count_lanes-held.result.rounds ≡ longest (lanes_at a.set.now a.table.now a.n) = ap (λ (x : Counted). x.rounds) c.count_lanes-held.ensures in
    let most-in : c.args.n * c.count_lanes-held.result.rounds ≤ 8192 = rounds_fit c.args.n _ c.requires.readable.few (omega (arith, rounds-in, rounds_few c.requires.readable)) in
    omega (arith, most-in)

pub overflow_sub-result : goal.overflow_sub-result
overflow_sub-result c =
    let rounds-in : let a = c.args in c.count_lanes-held.result.rounds ≡ longest (lanes_at a.set.now a.table.now a.n) = ap (λ (x : Counted). x.rounds) c.count_lanes-held.ensures in
    let inside-in : let a = c.args in length a.set.now / 2 ≤ a.n * c.count_lanes-held.result.rounds = pairs_inside c.requires _ (rounds-in) in
    omega (arith, inside-in)

pub returns : goal.returns
returns c =
    let rounds-in : let a = c.args in c.count_lanes-held.result.rounds ≡ longest (lanes_at a.set.now a.table.now a.n) = ap (λ (x : Counted). x.rounds) c.count_lanes-held.ensures in
    let inside-in : let a = c.args in length a.set.now / 2 ≤ a.n * c.count_lanes-held.result.rounds = pairs_inside c.requires _ (rounds-in) in
    gain_is c.requires c.args.stages c.count_lanes-held.result.bits c.count_lanes-held.result.lanes c.count_lanes-held.result.rounds (c.args.n * c.count_lanes-held.result.rounds - length c.args.set.now / 2) _
    (ap (λ (x : Counted). x.bits) c.count_lanes-held.ensures) (ap (λ (x : Counted). x.lanes) c.count_lanes-held.ensures) (rounds-in)
    (omega (arith, inside-in)) c.part_words.ensures
