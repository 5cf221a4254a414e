-- `aiger_write::lists::judge` meets its contract: a gate that is cut, a last pin out of range, else gate by gate. Assumes nothing.
use native.Mathlib.Omega.{arith}
use Rattle.aiger_write.proofs.WritePassLaws.{judged_cut, judged_large}
use Rattle.aiger_write.proofs.lists.judge.Goals as goal

pub returns-then-gates-ne0 : goal.returns-then-gates-ne0
returns-then-gates-ne0 c = judged_cut _ c.if-gates-ne0.true

pub returns-then-inputs-gates-gt1073741824 : goal.returns-then-inputs-gates-gt1073741824
returns-then-inputs-gates-gt1073741824 c = judged_large _ (omega (arith, c.inputs_of-inputs.ensures, c.if-inputs-gates-gt1073741824.true))
