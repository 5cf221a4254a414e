use mathlib.Core.Path.{sym, ◌∙◌}
use native.Mathlib.Omega.{arith}
use Rattle.run_machine.specs.Part.{end_at}
use Rattle.run_form.proofs.BlockFormLaws.{parts_start, parts_stop, part_fits, parts_last, parts_more}
use Rattle.run_form.proofs.form.parts_form.Goals as goal

pub loop-script-init : goal.loop-script-init
loop-script-init c = parts_start _ _ _ _ _ _ c.args.block.now.order c.args.block.now.within

pub part_end-at-requires : goal.part_end-at-requires
part_end-at-requires c =
    let fits = part_fits _ _ _ _ _ (omega arith) _ _ c.loop-script.invariant (sym c.part_form.ensures ∙ c.loop-script-test.true) in
    (c.args.block.now.edition, omega (arith, fits.0))

pub returns-then-at-end : goal.returns-then-at-end
returns-then-at-end c =
    parts_last _ _ _ _ _ (omega arith) _ _ c.loop-script.invariant (sym c.part_form.ensures ∙ c.loop-script-test.true) (sym c.part_end-at.ensures ∙ c.if-at-end.true)

pub loop-script-smaller : goal.loop-script-smaller
unfolding end_at
loop-script-smaller c =
    let fits = part_fits _ _ _ _ _ (omega arith) _ _ c.loop-script.invariant (sym c.part_form.ensures ∙ c.loop-script-test.true) in
    omega (arith, fits.0, fits.1, c.part_end-at.ensures)

pub loop-script-preserved : goal.loop-script-preserved
loop-script-preserved c =
    rw c.part_end-at.ensures
    (parts_more _ _ _ _ _ (omega arith) _ _ c.loop-script.invariant (sym c.part_form.ensures ∙ c.loop-script-test.true) (λ q. c.if-at-end.false (c.part_end-at.ensures ∙ q)))

pub returns : goal.returns
returns c = parts_stop _ _ _ _ _ _ _ c.loop-script.invariant (sym c.part_form.ensures ∙ c.loop-script-test.false)
