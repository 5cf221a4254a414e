-- `run_form::form::part_form` meets its contract: the form of a part is that of its numbers and what follows from them.
-- Assumes nothing.
use mathlib.Core.Path.{sym, ◌∙◌}
use native.Mathlib.Omega.{arith}
use Rattle.run_machine.specs.Part.{end_at}
use Rattle.run_form.proofs.BlockFormLaws.{head_ends, part_bad, part_rest}
use Rattle.run_form.proofs.form.part_form.Goals as goal

pub returns-then-not-head_form : goal.returns-then-not-head_form
returns-then-not-head_form c = part_bad _ _ _ _ _ _ (sym c.head_form.ensures ∙ c.if-not-head_form.true)

pub invariant_of-part : goal.invariant_of-part
unfolding end_at
invariant_of-part c =
    let ends = head_ends _ _ _ _ (sym c.head_form.ensures ∙ c.if-not-head_form.false) in
    record { inside = record { lanes = c.args.rest.now.edition; inside = omega (arith, c.args.rest.now.within, ends.1) } }

pub returns : goal.returns
returns c = part_rest _ _ _ _ _ _ _ (sym c.head_form.ensures ∙ c.if-not-head_form.false) c.body_form.ensures
