use mathlib.Core.Path.{◌≡◌, refl, sym, ◌∙◌}
use Prim.Native.Nat.{◌%◌}
use native.Mathlib.Omega.{arith}
use lib.ListN.{length}
use Rattle.repair_tally.proofs.TallyStepLaws.{told_true, told_false, all_odd, all_even, check_on, check_stop, check_end}
use Rattle.repair_tally.proofs.check_counts.Goals as goal

pub returns-then-counts-ne0 : goal.returns-then-counts-ne0
returns-then-counts-ne0 c =
    all_odd c.args.map.now c.args.counts.now (λ (e : length c.args.counts.now % 2 ≡ 0). omega arith)

pub loop-i-init : goal.loop-i-init
loop-i-init c = (refl, refl)

pub loop-i-preserved : goal.loop-i-preserved
loop-i-preserved c =
    let k = told_true _ _ _ c.enter.ensures c.if-not-enter.false in
    (omega arith, sym (check_on c.loop-i.map c.args.counts.now c.loop-i.i (omega arith) c.enter.new.map k) ∙ c.loop-i.invariant.1)

pub returns-then-not-enter : goal.returns-then-not-enter
returns-then-not-enter c =
    let k = told_false _ _ _ c.enter.ensures c.if-not-enter.true in
    let z : length c.args.counts.now % 2 ≡ 0 = omega arith in
    all_even c.args.map.now c.args.counts.now z ∙ (sym c.loop-i.invariant.1 ∙ check_stop c.loop-i.map c.args.counts.now c.loop-i.i (omega arith) k)

pub returns : goal.returns
returns c =
    let z : length c.args.counts.now % 2 ≡ 0 = omega arith in
    all_even c.args.map.now c.args.counts.now z ∙ (sym c.loop-i.invariant.1 ∙ check_end c.loop-i.map c.args.counts.now c.loop-i.i (omega arith))
