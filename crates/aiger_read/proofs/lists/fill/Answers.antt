use mathlib.Core.Path.{◌≡◌, sym, ◌∙◌}
use Prim.Native.Nat.{◌+◌, ◌-◌}
use native.Mathlib.Omega.{arith}
use Rattle.aiger_read.proofs.ReadPassLaws.{filling_start, filling_next, filling_good, filling_end}
use Rattle.aiger_read.proofs.lists.fill.Goals as goal

pub loop-k-init : goal.loop-k-init
loop-k-init c =
    let e : c.args.first.0 + 0 ≡ c.args.first.0 = omega arith in
    let z : c.args.gates - 0 ≡ c.args.gates = omega arith in
    rw (e, z) (filling_start _ _ _ _ _ c.requires)

pub unwrap-gate-requires : goal.unwrap-gate-requires
unwrap-gate-requires c = rw c.gate_at.ensures (filling_good c.loop-k.invariant (omega arith))

pub loop-k-preserved : goal.loop-k-preserved
loop-k-preserved c =
    filling_next c.loop-k.invariant _ _ _ _ (omega arith) (omega arith) (omega arith) (omega arith) (sym c.gate_at.ensures ∙ c.unwrap-gate.ensures)

pub returns : goal.returns
returns c = filling_end c.loop-k.invariant (omega arith)
