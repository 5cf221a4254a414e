use mathlib.Core.Path.{◌≡◌, ap}
use Prim.Native.Nat.{ℕ, ◌+◌, ◌*◌}
use native.Mathlib.Omega.{arith}
use Rattle.handed.proofs.PairJudgeLaws.{judging_start, judging_end, judging_pair, table_long, judged_bad, may_number, may_bits, may_place, judged_half, judged_open, judged_closed}
use Rattle.handed.proofs.fill.judge_pairs.Goals as goal

pub loop-k-init : goal.loop-k-init
loop-k-init c = judging_start c.args.set.now c.args.lanes.now c.args.n _ _ c.requires.1 c.requires.2

pub overflow_add-lane : goal.overflow_add-lane
overflow_add-lane c = omega (arith, c.loop-k.invariant.lane_few, c.loop-k.invariant.within, c.well_formed)

pub loop-k-preserved-then-m-eq0 : goal.loop-k-preserved-then-m-eq0
loop-k-preserved-then-m-eq0 c =
    let on : 2 * (c.loop-k.k + 1) ≡ 2 * c.loop-k.k + 2 = omega arith in
    rw on (judging_end c.args.set.now c.args.lanes.now c.args.n c.loop-k.invariant (omega arith) c.if-m-eq0.true)

pub fit-requires : goal.fit-requires
fit-requires c = (c.requires.0.formed, c.loop-k.invariant.marks, c.loop-k.invariant.light)

pub item-requires : goal.item-requires
item-requires c = omega (arith, c.loop-k.invariant.some_bits, c.loop-k.invariant.light)

pub returns-in_default : goal.returns-in_default
returns-in_default c =
    let told = judged_bad c.args.set.now c.args.lanes.now c.args.n c.loop-k.invariant c.requires.0.formed.form (λ x. (c.type_inv.lanes x).fits) c.requires.0.formed.few (omega arith) c.if-m-eq0.false _ c.fit.ensures c.in_default.is _ c.item.ensures in
    record { value = told.0; pairs_filled = told.1 }

pub put-requires : goal.put-requires
put-requires c = (
  table_long c.args.set.now c.args.lanes.now c.args.n c.loop-k.invariant,
  c.loop-k.invariant.marks,
  c.requires.0.few-lanes,
  may_place c.args.set.now c.args.lanes.now c.args.n c.loop-k.invariant c.requires.0.formed.form (λ x. (c.type_inv.lanes x).fits) c.requires.0.formed.few (omega arith) c.if-m-eq0.false _ c.fit.ensures _ c.in-Some.is,
  may_number c.args.set.now c.args.lanes.now c.args.n c.loop-k.invariant c.requires.0.formed.form (λ x. (c.type_inv.lanes x).fits) c.requires.0.formed.few (omega arith) c.if-m-eq0.false _ c.fit.ensures _ c.in-Some.is,
)

pub overflow_add-place : goal.overflow_add-place
overflow_add-place c = omega (arith, c.loop-k.invariant.some_bits, c.loop-k.invariant.light)

pub overflow_add-b : goal.overflow_add-b
overflow_add-b c = omega (arith, may_bits c.args.set.now c.args.lanes.now c.args.n c.loop-k.invariant c.requires.0.formed.form (λ x. (c.type_inv.lanes x).fits) c.requires.0.formed.few (omega arith) c.if-m-eq0.false _ c.fit.ensures _ c.in-Some.is, c.count-b.ensures)

pub loop-k-preserved : goal.loop-k-preserved
loop-k-preserved c =
    let on : 2 * (c.loop-k.k + 1) ≡ 2 * c.loop-k.k + 2 = omega arith in
    rw on (judging_pair c.args.set.now c.args.lanes.now c.args.n c.loop-k.invariant c.requires.0.formed.form (λ x. (c.type_inv.lanes x).fits) c.requires.0.formed.few (omega arith) c.if-m-eq0.false _ c.fit.ensures _ c.in-Some.is
    _ _ _ c.put.ensures.table_after c.put.ensures.seen_after (ap (λ (x : ℕ). c.loop-k.b + x) c.count-b.ensures))

pub overflow_add-result : goal.overflow_add-result
overflow_add-result c = omega (arith, c.loop-k.invariant.lane_few, c.loop-k.invariant.within, c.well_formed)

pub returns-then-lanes-eq1 : goal.returns-then-lanes-eq1
returns-then-lanes-eq1 c =
    let told = judged_half c.args.set.now c.args.lanes.now c.args.n c.loop-k.invariant (omega arith) (omega arith) in
    record { value = told.0; pairs_filled = told.1 }

pub overflow_add-result-then-place-gt0 : goal.overflow_add-result-then-place-gt0
overflow_add-result-then-place-gt0 c = omega (arith, c.loop-k.invariant.lane_few, c.loop-k.invariant.within, c.well_formed)

pub returns-then-place-gt0 : goal.returns-then-place-gt0
returns-then-place-gt0 c =
    let told = judged_open c.args.set.now c.args.lanes.now c.args.n c.loop-k.invariant (omega arith) c.if-place-gt0.true in
    record { value = told.0; pairs_filled = told.1 }

pub returns : goal.returns
returns c =
    let told = judged_closed c.args.set.now c.args.lanes.now c.args.n c.loop-k.invariant (omega arith) c.if-place-gt0.false in
    record { value = told.0; pairs_filled = told.1 }
