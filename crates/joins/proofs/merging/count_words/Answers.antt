use mathlib.Core.Path.{ap}
use Prim.Native.Nat.{◌+◌}
use native.Mathlib.Omega.{arith}
use lib.ListN.{length}
use Rattle.joins.proofs.JoinPassLaws.{Halfway, halfway_start, halfway_end, halfway_pair, halfway_next, halfway_on}
use Rattle.joins.proofs.merging.count_words.Goals as goal

pub loop-i-init : goal.loop-i-init
loop-i-init c = halfway_start c.requires

pub first_pair-step-requires : goal.first_pair-step-requires
first_pair-step-requires c = halfway_pair c.loop-i.invariant c.loop-i-test.true

pub overflow_add-i-in-loop-i : goal.overflow_add-i-in-loop-i
overflow_add-i-in-loop-i c =
    let next_in : Halfway c.args.a.now c.args.b.now (c.loop-i.n + 2) (c.loop-i.i + c.first_pair-step.result.first) (c.loop-i.j + c.first_pair-step.result.second) = halfway_next c.loop-i.invariant c.loop-i-test.true c.first_pair-step.result c.first_pair-step.ensures in
    let M = next_in in omega (arith, M.first_in)

pub overflow_add-j : goal.overflow_add-j
overflow_add-j c =
    let next_in : Halfway c.args.a.now c.args.b.now (c.loop-i.n + 2) (c.loop-i.i + c.first_pair-step.result.first) (c.loop-i.j + c.first_pair-step.result.second) = halfway_next c.loop-i.invariant c.loop-i-test.true c.first_pair-step.result c.first_pair-step.ensures in
    let M = next_in in omega (arith, M.second_in)

pub overflow_add-n : goal.overflow_add-n
overflow_add-n c = omega (arith, c.loop-i.invariant.few, c.loop-i.invariant.first_in)

pub loop-i-smaller : goal.loop-i-smaller
loop-i-smaller c =
    let next_in : Halfway c.args.a.now c.args.b.now (c.loop-i.n + 2) (c.loop-i.i + c.first_pair-step.result.first) (c.loop-i.j + c.first_pair-step.result.second) = halfway_next c.loop-i.invariant c.loop-i-test.true c.first_pair-step.result c.first_pair-step.ensures in
    let M = next_in in
    let on = halfway_on c.loop-i.invariant c.loop-i-test.true c.first_pair-step.result c.first_pair-step.ensures in
    omega (arith, on, M.first_in, M.second_in, c.loop-i-test.true)

pub loop-i-preserved : goal.loop-i-preserved
loop-i-preserved c =
    let next_in : Halfway c.args.a.now c.args.b.now (c.loop-i.n + 2) (c.loop-i.i + c.first_pair-step.result.first) (c.loop-i.j + c.first_pair-step.result.second) = halfway_next c.loop-i.invariant c.loop-i-test.true c.first_pair-step.result c.first_pair-step.ensures in
    next_in

pub returns : goal.returns
returns c =
    omega (arith, c.loop-i.invariant.words, ap length (halfway_end c.loop-i.invariant c.loop-i-test.false))
