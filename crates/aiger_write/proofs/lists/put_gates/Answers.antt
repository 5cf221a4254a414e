use native.Mathlib.Omega.{arith}
use Rattle.aiger_write.proofs.WritePassLaws.{list_fits, gate_of_lem, gates_start_lem, gates_more, gates_done}
use Rattle.aiger_write.proofs.lists.put_gates.Goals as goal

pub loop-g-init : goal.loop-g-init
loop-g-init c = gates_start_lem _ _

pub put_gate-requires : goal.put_gate-requires
put_gate-requires c =
    let right = gate_of_lem c.args.gates.now c.requires.0 c.loop-g.g c.loop-g-test.true c.pin_of.ensures c.first_of.ensures c.second_of.ensures in
    (right, omega (arith, c.loop-g.invariant.short, list_fits c.args.gates.now c.requires.0, c.requires.1))

pub loop-g-preserved : goal.loop-g-preserved
loop-g-preserved c =
    gates_more c.args.gates.now c.loop-g.g c.loop-g-test.true c.pin_of.ensures c.first_of.ensures c.second_of.ensures c.loop-g.invariant c.put_gate.ensures

pub returns : goal.returns
returns c =
    gates_done c.args.gates.now c.loop-g.g c.loop-g-test.false (omega (arith, list_fits c.args.gates.now c.requires.0)) c.loop-g.invariant
