-- `aiger_read::start::fields_of` meets its contract. Where a field is wrong, no header is read; five numbers are a header where their sum is right. Assumes nothing.
use mathlib.Core.Path.{sym, ◌∙◌}
use Prim.Native.Nat.{◌*◌, ◌≤◌}
use native.Mathlib.Omega.{arith}
use lib.ListN.{length}
use Rattle.aiger_read.proofs.FieldLaws.{value_parts, read}
use Rattle.aiger_read.proofs.HeaderReadLaws.{wrong_m, wrong_i, wrong_l, wrong_o, wrong_a, wrong_sum, right_sum}
use Rattle.aiger_read.proofs.start.fields_of.Goals as goal

pub returns-in_err-most : goal.returns-in_err-most
returns-in_err-most c = c.from_residual.ensures ∙ wrong_m _ _ (sym c.field_at.ensures ∙ c.in_err-most.was)

pub returns-in_err-inputs : goal.returns-in_err-inputs
returns-in_err-inputs c =
    let m = value_parts _ _ _ (sym c.field_at.ensures ∙ c.in_ok-most.was) in
    c.from_residual-in_err-inputs.ensures ∙ wrong_i _ _ (read c.in_ok-most.most) m.is (sym c.field_at-2.ensures ∙ c.in_err-inputs.was)

pub returns-in_err-latches : goal.returns-in_err-latches
returns-in_err-latches c =
    let m = value_parts _ _ _ (sym c.field_at.ensures ∙ c.in_ok-most.was) in
    let i = value_parts _ _ _ (sym c.field_at-2.ensures ∙ c.in_ok-inputs.was) in
    c.from_residual-in_err-latches.ensures ∙ wrong_l _ _ (read c.in_ok-most.most) m.is (read c.in_ok-inputs.inputs) i.is (sym c.field_at-3.ensures ∙ c.in_err-latches.was)

pub returns-in_err-outputs : goal.returns-in_err-outputs
returns-in_err-outputs c =
    let m = value_parts _ _ _ (sym c.field_at.ensures ∙ c.in_ok-most.was) in
    let i = value_parts _ _ _ (sym c.field_at-2.ensures ∙ c.in_ok-inputs.was) in
    let l = value_parts _ _ _ (sym c.field_at-3.ensures ∙ c.in_ok-latches.was) in
    c.from_residual-in_err-outputs.ensures
    ∙ wrong_o _ _ (read c.in_ok-most.most) m.is (read c.in_ok-inputs.inputs) i.is (read c.in_ok-latches.latches) l.is (sym c.field_at-4.ensures ∙ c.in_err-outputs.was)

pub returns-in_err-gates : goal.returns-in_err-gates
returns-in_err-gates c =
    let m = value_parts _ _ _ (sym c.field_at.ensures ∙ c.in_ok-most.was) in
    let i = value_parts _ _ _ (sym c.field_at-2.ensures ∙ c.in_ok-inputs.was) in
    let l = value_parts _ _ _ (sym c.field_at-3.ensures ∙ c.in_ok-latches.was) in
    let o = value_parts _ _ _ (sym c.field_at-4.ensures ∙ c.in_ok-outputs.was) in
    c.from_residual-in_err-gates.ensures
    ∙ wrong_a _ _ (read c.in_ok-most.most) m.is (read c.in_ok-inputs.inputs) i.is (read c.in_ok-latches.latches) l.is (read c.in_ok-outputs.outputs) o.is
    (sym c.field_at-5.ensures ∙ c.in_err-gates.was)

pub overflow_add-inputs : goal.overflow_add-inputs
overflow_add-inputs c =
    let m = value_parts _ _ _ (sym c.field_at.ensures ∙ c.in_ok-most.was) in
    let i = value_parts _ _ _ (sym c.field_at-2.ensures ∙ c.in_ok-inputs.was) in
    let l = value_parts _ _ _ (sym c.field_at-3.ensures ∙ c.in_ok-latches.was) in
    omega (arith, m.fits, i.fits, l.fits)

pub overflow_add-inputs-2 : goal.overflow_add-inputs-2
overflow_add-inputs-2 c =
    let m = value_parts _ _ _ (sym c.field_at.ensures ∙ c.in_ok-most.was) in
    let i = value_parts _ _ _ (sym c.field_at-2.ensures ∙ c.in_ok-inputs.was) in
    let l = value_parts _ _ _ (sym c.field_at-3.ensures ∙ c.in_ok-latches.was) in
    let g = value_parts _ _ _ (sym c.field_at-5.ensures ∙ c.in_ok-gates.was) in
    omega (arith, m.fits, i.fits, l.fits, g.fits)

pub returns-then-inputs-latches : goal.returns-then-inputs-latches
returns-then-inputs-latches c =
    let m = value_parts _ _ _ (sym c.field_at.ensures ∙ c.in_ok-most.was) in
    let i = value_parts _ _ _ (sym c.field_at-2.ensures ∙ c.in_ok-inputs.was) in
    let l = value_parts _ _ _ (sym c.field_at-3.ensures ∙ c.in_ok-latches.was) in
    let o = value_parts _ _ _ (sym c.field_at-4.ensures ∙ c.in_ok-outputs.was) in
    let g = value_parts _ _ _ (sym c.field_at-5.ensures ∙ c.in_ok-gates.was) in
    wrong_sum _ _ (read c.in_ok-most.most) m.is (read c.in_ok-inputs.inputs) i.is (read c.in_ok-latches.latches) l.is (read c.in_ok-outputs.outputs) o.is
    (read c.in_ok-gates.gates) g.is c.if-inputs-latches.true

pub returns : goal.returns
returns c =
    let m = value_parts _ _ _ (sym c.field_at.ensures ∙ c.in_ok-most.was) in
    let i = value_parts _ _ _ (sym c.field_at-2.ensures ∙ c.in_ok-inputs.was) in
    let l = value_parts _ _ _ (sym c.field_at-3.ensures ∙ c.in_ok-latches.was) in
    let o = value_parts _ _ _ (sym c.field_at-4.ensures ∙ c.in_ok-outputs.was) in
    let g = value_parts _ _ _ (sym c.field_at-5.ensures ∙ c.in_ok-gates.was) in
    let lines : 2 * c.in_ok-outputs.outputs.value ≤ length c.args.bytes.now = omega (arith, o.fits) in
    right_sum _ _ (read c.in_ok-most.most) m.is (read c.in_ok-inputs.inputs) i.is (read c.in_ok-latches.latches) l.is (read c.in_ok-outputs.outputs) o.is
    (read c.in_ok-gates.gates) g.is c.if-inputs-latches.false m.fits lines
