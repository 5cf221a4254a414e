use mathlib.Core.Path.{sym, ◌∙◌}
use native.Mathlib.Omega.{arith}
use Rattle.aiger_write.proofs.WritePassLaws.{right_gate, right_list, long_list, judging_start, judging_next, judging_bad, judging_done}
use Rattle.aiger_write.proofs.lists.judge_gates.Goals as goal

pub header_length-bytes-requires : goal.header_length-bytes-requires
header_length-bytes-requires c = omega (arith, c.requires.fits)

pub loop-g-init : goal.loop-g-init
loop-g-init c =
    judging_start c.args.gates.now _ _ c.requires.is c.header_length-bytes.ensures.0 c.header_length-bytes.ensures.1

pub is_right-requires : goal.is_right-requires
is_right-requires c = omega (arith, c.requires.fits, c.loop-g-test.true)

pub returns-then-not-is_right : goal.returns-then-not-is_right
returns-then-not-is_right c =
    let wrong = right_list c.args.gates.now c.loop-g.g c.pin_of.ensures c.first_of-first.ensures c.second_of-second.ensures _ c.is_right.ensures c.if-not-is_right.true in
    judging_bad c.loop-g.invariant _ (omega (arith, c.requires.is)) c.loop-g-test.true wrong

pub gate_length-bytes-requires : goal.gate_length-bytes-requires
gate_length-bytes-requires c =
    right_gate _ _ _ _ (omega (arith, c.requires.fits, c.loop-g-test.true)) (sym c.is_right.ensures ∙ c.if-not-is_right.false)

pub overflow_add-bytes : goal.overflow_add-bytes
overflow_add-bytes c =
    omega (arith, c.loop-g.invariant.bound, c.gate_length-bytes.ensures.1, c.loop-g-test.true, c.requires.fits)

pub loop-g-preserved : goal.loop-g-preserved
loop-g-preserved c =
    let good = right_list c.args.gates.now c.loop-g.g c.pin_of.ensures c.first_of-first.ensures c.second_of-second.ensures _ c.is_right.ensures c.if-not-is_right.false in
    let long = long_list c.args.gates.now c.loop-g.g c.pin_of.ensures c.first_of-first.ensures c.second_of-second.ensures _ c.gate_length-bytes.ensures.0 in
    judging_next c.loop-g.invariant _ (omega (arith, c.requires.is)) _ c.loop-g-test.true good long c.gate_length-bytes.ensures.1

pub returns : goal.returns
returns c =
    judging_done c.loop-g.invariant c.loop-g-test.false c.requires.whole (omega (arith, c.requires.is, c.requires.fits))
