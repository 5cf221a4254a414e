-- The tests in their order.
-- Assumes nothing.
use Rattle.std.proofs.Common.{◌≡◌, ◌≤◌, true, false, refl, sym, ◌∙◌}
use Rattle.plan_record.specs.Record.{majors_of}
use Rattle.plan_record.specs.Form.{head_form, counts_form}
use Rattle.plan_record.proofs.PlanFormLaws.{head_ranges, parts_range}
use Rattle.plan_form.proofs.FormTestLaws.{plan_is}
use Rattle.plan_form.proofs.plan_form.Goals as goal
use Rattle.plan_form.proofs.plan_form.Goals.{then-head_form, else-head_form}

pub parts_form-requires : goal.parts_form-requires
parts_form-requires c =
    elim c.if-head_form.branch [
      | then-head_form w ↦
          let head_right : head_form c.args.d.now ≡ true = cc in
          let counts_right : counts_form c.args.d.now ≡ true = cc in
          let m : majors_of c.args.d.now ≤ 64 = (head_ranges _ head_right).majors in
          (m, parts_range _ m counts_right)
      | else-head_form w ↦ cc
    ]

pub returns-then-counts_form : goal.returns-then-counts_form
returns-then-counts_form c =
    elim c.if-head_form.branch [
      | then-head_form w ↦
          let head_right : head_form c.args.d.now ≡ true = cc in
          let counts_right : counts_form c.args.d.now ≡ true = cc in
          c.parts_form.ensures ∙ sym (plan_is c.args.d.now _ _ head_right counts_right)
      | else-head_form w ↦ cc
    ]

pub returns-else-counts_form : goal.returns-else-counts_form
returns-else-counts_form c =
    elim c.if-head_form.branch [
      | then-head_form w ↦
          let head_right : head_form c.args.d.now ≡ true = cc in
          let wrong : counts_form c.args.d.now ≡ false = cc in
          c.if-counts_form.false ∙ sym (plan_is c.args.d.now _ _ head_right wrong)
      | else-head_form w ↦
          let wrong : head_form c.args.d.now ≡ false = cc in
          c.if-counts_form.false ∙ sym (plan_is c.args.d.now _ _ wrong refl)
    ]
