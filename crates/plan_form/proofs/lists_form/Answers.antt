-- The tests in their order.
-- Assumes nothing.
use Rattle.std.proofs.Common.{◌≡◌, true, false, refl, sym, ◌∙◌}
use Rattle.words.specs.Tests.{all_below}
use Rattle.plan_record.specs.Record.{gates_of, layout_of, positions_of}
use Rattle.plan_record.specs.Form.{gate_form, layout_form, position_form}
use Rattle.plan_record.proofs.PlanFormLaws.{heads_in}
use Rattle.plan_form.proofs.FormTestLaws.{lists_are}
use Rattle.plan_form.proofs.lists_form.Goals as goal
use Rattle.plan_form.proofs.lists_form.Goals.{then-gates_form, else-gates_form, then-layouts_form, else-layouts_form}

pub gates_form-requires : goal.gates_form-requires
gates_form-requires c = heads_in c.args.d.now c.requires

pub layouts_form-requires : goal.layouts_form-requires
layouts_form-requires c = heads_in c.args.d.now c.requires

pub positions_form-requires : goal.positions_form-requires
positions_form-requires c = heads_in c.args.d.now c.requires

pub returns-then-positions_form : goal.returns-then-positions_form
returns-then-positions_form c =
    elim c.if-layouts_form.branch [
      | then-layouts_form w ↦
          elim c.if-gates_form.branch [
            | then-gates_form v ↦
                let gates : all_below (gate_form c.args.d.now) (gates_of c.args.d.now) ≡ true = cc in
                let layout : all_below (layout_form c.args.d.now) (layout_of c.args.d.now) ≡ true = cc in
                let positions : all_below (position_form c.args.d.now) (positions_of c.args.d.now) ≡ true = cc in
                sym (lists_are c.args.d.now _ _ _ _ gates layout positions (sym c.bodies_form.ensures))
            | else-gates_form v ↦ cc
          ]
      | else-layouts_form w ↦ cc
    ]

pub returns-else-positions_form : goal.returns-else-positions_form
returns-else-positions_form c =
    elim c.if-layouts_form.branch [
      | then-layouts_form w ↦
          elim c.if-gates_form.branch [
            | then-gates_form v ↦
                let gates : all_below (gate_form c.args.d.now) (gates_of c.args.d.now) ≡ true = cc in
                let layout : all_below (layout_form c.args.d.now) (layout_of c.args.d.now) ≡ true = cc in
                let positions : all_below (position_form c.args.d.now) (positions_of c.args.d.now) ≡ false = cc in
                c.if-positions_form.false ∙ sym (lists_are c.args.d.now _ _ _ _ gates layout positions refl)
            | else-gates_form v ↦ cc
          ]
      | else-layouts_form w ↦
          elim c.if-gates_form.branch [
            | then-gates_form v ↦
                let gates : all_below (gate_form c.args.d.now) (gates_of c.args.d.now) ≡ true = cc in
                let layout : all_below (layout_form c.args.d.now) (layout_of c.args.d.now) ≡ false = cc in
                c.if-positions_form.false ∙ sym (lists_are c.args.d.now _ _ _ _ gates layout refl refl)
            | else-gates_form v ↦
                let gates : all_below (gate_form c.args.d.now) (gates_of c.args.d.now) ≡ false = cc in
                c.if-positions_form.false ∙ sym (lists_are c.args.d.now _ _ _ _ gates refl refl refl)
          ]
    ]
