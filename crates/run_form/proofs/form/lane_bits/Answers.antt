-- A lane reads at most 32 bits in a round.
-- Assumes nothing.
use mathlib.Core.Path.{◌≡◌, refl, ap, ap₂, ◌∙◌}
use Prim.Native.Nat.{◌+◌}
use native.Mathlib.Omega.{arith}
use Rattle.words.specs.Sum.{sum_to}
use Rattle.words.specs.Bit.{pop}
use Rattle.run_machine.specs.Part.{rounds_at}
use Rattle.run_form.proofs.TestCodeLaws.{mask_count_small}
use Rattle.words.proofs.SumLaws.{sum_more}
use Rattle.run_form.proofs.form.lane_bits.Goals as goal

pub loop-r-init : goal.loop-r-init
unfolding sum_to
loop-r-init c = (c.rounds-r-end.ensures.0, omega arith, refl)

pub overflow_add-sum : goal.overflow_add-sum
overflow_add-sum c = omega (arith, mask_count_small _ _ c.count.ensures, c.rounds-r-end.ensures.1)

pub loop-r-preserved : goal.loop-r-preserved
loop-r-preserved c =
    let small = mask_count_small _ _ c.count.ensures in
    (c.loop-r.invariant.0, omega arith, rw sum_more (ap₂ ◌+◌ c.loop-r.invariant.2 (c.count.ensures ∙ ap pop c.pair.ensures.1)))

pub returns : goal.returns
returns c =
    let e : c.loop-r.r ≡ rounds_at c.args.part.now.script.words.now c.args.part.now.at = omega arith in
    rw e at c.loop-r.invariant.2
