use Rattle.std.proofs.Common.{sym, ◌∙◌, arith}
use Rattle.words.proofs.FoundLaws.{look_start, look_fault, look_next, look_end}
use Rattle.gatelist.specs.GateList.{right_over, bad_over}
use Rattle.gatelist.proofs.GateListLaws.{before_first, before_next, right_read}
use Rattle.gatelist.proofs.first_wrong.Goals as goal

pub loop-i-init : goal.loop-i-init
unfolding bad_over
loop-i-init g c = λ pin first second told. (sym (before_first pin), look_start (right_over pin first second) c.args.n)

pub returns-then-not-stands : goal.returns-then-not-stands
returns-then-not-stands g c = λ pin first second told.
    let here = c.loop-i.invariant pin first second told in
    let x = told _ c.loop-i-test.true _ c.gate_at-gate.ensures in
    look_fault (right_over pin first second) _ _ _ here.1 c.loop-i-test.true
    (sym (right_read pin first second _ _ _ _ _ here.0 x.0 x.1 x.2) ∙ sym c.stands.ensures ∙ c.if-not-stands.true)

pub loop-i-preserved : goal.loop-i-preserved
loop-i-preserved g c = λ pin first second told.
    let here = c.loop-i.invariant pin first second told in
    let x = told _ c.loop-i-test.true _ c.gate_at-gate.ensures in (
      x.0 ∙ sym (before_next pin _),
      look_next (right_over pin first second) _ _ _ here.1 c.loop-i-test.true
          (sym (right_read pin first second _ _ _ _ _ here.0 x.0 x.1 x.2) ∙ sym c.stands.ensures ∙ c.if-not-stands.false),
    )

pub returns : goal.returns
returns g c = λ pin first second told. look_end (right_over pin first second) _ _ _ (c.loop-i.invariant pin first second told).1 (omega arith)
