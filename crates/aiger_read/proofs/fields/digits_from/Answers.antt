use mathlib.Core.Path.{◌≡◌, sym, ◌∙◌}
use native.Mathlib.Omega.{arith}
use lib.ListN.{length}
use Rattle.aiger_read.proofs.FieldLaws.{digits_past, digits_stop, digits_go, field_good, digits_large}
use Rattle.aiger_read.proofs.fields.digits_from.Goals as goal

pub returns-in_default : goal.returns-in_default
returns-in_default c =
    let stop = digits_stop c.args.bytes.now _ _ (omega arith) (sym c.digit_of.ensures ∙ c.in_default.is) in
    field_good _ _ _ _ (sym c.loop-i.invariant.1 ∙ stop) c.loop-i.invariant.0

pub returns-then-most-value : goal.returns-then-most-value
returns-then-most-value c =
    digits_large c.args.bytes.now c.args.most c.loop-i.value c.loop-i.i _ _ (omega arith) (sym c.digit_of.ensures ∙ c.in-Some.is) (omega arith) c.loop-i.invariant.1

pub returns-then-most-value-2 : goal.returns-then-most-value-2
returns-then-most-value-2 c =
    digits_large c.args.bytes.now c.args.most c.loop-i.value c.loop-i.i _ _ (omega arith) (sym c.digit_of.ensures ∙ c.in-Some.is) (omega arith) c.loop-i.invariant.1

pub loop-i-preserved : goal.loop-i-preserved
loop-i-preserved c =
    let on = digits_go c.args.bytes.now c.loop-i.value c.loop-i.i (omega arith) _ (sym c.digit_of.ensures ∙ c.in-Some.is) in
    (omega arith, sym on ∙ c.loop-i.invariant.1)

pub returns : goal.returns
returns c =
    let past = digits_past c.args.bytes.now c.loop-i.value c.loop-i.i (omega arith) in
    let end : c.loop-i.i ≡ length c.args.bytes.now = omega arith in
    rw (← end) (field_good _ _ _ _ (sym c.loop-i.invariant.1 ∙ past) c.loop-i.invariant.0)
