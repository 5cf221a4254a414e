use mathlib.Core.Path.{◌≡◌, sym, ap₂, ◌∙◌}
use Prim.Native.Nat.{ℕ, ◌+◌, ◌-◌, ◌<◌}
use native.Mathlib.Omega.{arith}
use Rattle.std.proofs.lemmas.Result.{err_from_is_err_and}
use Rattle.aiger.specs.Reading.{gates_from}
use Rattle.aiger_read.specs.ReadTold.{gates_judged}
use Rattle.aiger_read.proofs.ReadPassLaws.{judged_next, judged_bad, judged_end}
use Rattle.aiger_read.proofs.lists.judge.Goals as goal

pub loop-k-init : goal.loop-k-init
loop-k-init c =
    let e : c.args.first.0 + 0 ≡ c.args.first.0 = omega arith in
    let z : c.args.gates - 0 ≡ c.args.gates = omega arith in
    ap₂ (λ (n : ℕ) (v : ℕ). gates_judged (gates_from c.args.bytes.now n v c.args.at)) z e

pub loop-k-preserved : goal.loop-k-preserved
loop-k-preserved c =
    let some : 0 < c.args.gates - c.loop-k.k = omega arith in
    judged_next c.args.bytes.now (c.args.gates - c.loop-k.k) _ _ some _ _ _ (omega arith) (omega arith) (sym c.gate_at.ensures ∙ c.in_ok-i.was) ∙ c.loop-k.invariant

pub returns-in_err-i : goal.returns-in_err-i
returns-in_err-i c =
    let some : 0 < c.args.gates - c.loop-k.k = omega arith in
    let p = err_from_is_err_and c.from_residual.result c.from_residual.ensures.1 in
    rw (p.1, p.2) (judged_bad c.args.bytes.now _ _ _ some _ (sym c.gate_at.ensures ∙ c.in_err-i.was) ∙ c.loop-k.invariant)

pub returns : goal.returns
returns c = judged_end c.args.bytes.now (c.args.gates - c.loop-k.k) _ _ (omega arith) ∙ c.loop-k.invariant
