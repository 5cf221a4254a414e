-- `aiger_write::write_gates` meets its contract: 33, then 14, else the text. Assumes nothing.
use mathlib.Core.Path.{sym, ap, ◌∙◌}
use Rattle.std.specs.Prelude.{Err}
use Rattle.aiger_write.proofs.WritePassLaws.{measured, write_other, write_short, write_whole}
use Rattle.aiger_write.proofs.write_gates.Goals as goal

pub returns-in_default : goal.returns-in_default
returns-in_default c =
    let told = write_other c.args.gates.now _ _ (sym c.judge.ensures ∙ c.in_default.is) (ap Err c.nowhere.ensures) in
    record { value = told.0; out_after = told.1 }

pub returns-then-out-n : goal.returns-then-out-n
returns-then-out-n c =
    let M = measured c.args.gates.now _ (sym c.judge.ensures ∙ c.in-Some.is) in
    let told = write_short _ _ M _ _ c.if-out-n.true (ap Err c.nowhere-then-out-n.ensures) in
    record { value = told.0; out_after = told.1 }

pub put_text-requires : goal.put_text-requires
put_text-requires c = (measured c.args.gates.now _ (sym c.judge.ensures ∙ c.in-Some.is)).good

pub returns : goal.returns
returns c =
    let M = measured c.args.gates.now _ (sym c.judge.ensures ∙ c.in-Some.is) in
    let told = write_whole _ _ M _ _ c.if-out-n.false c.put_text.ensures in
    record { value = told.0; out_after = told.1 }
