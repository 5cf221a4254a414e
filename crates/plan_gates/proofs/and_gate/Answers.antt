-- `plan_gates::and_gate` meets its contract: on bits the code's operations are the definition's.
-- Assumes nothing.
use Rattle.plan_gates.proofs.GateLaws.{and_gate_is}
use Rattle.plan_gates.proofs.and_gate.Goals as goal

pub returns : goal.returns
returns c =
    and_gate_is c.args.a c.args.b c.inversion.result c.inversion-2.result c.args.first.0 c.args.second.0
    c.requires.0 c.requires.1 c.inversion.ensures c.inversion-2.ensures
