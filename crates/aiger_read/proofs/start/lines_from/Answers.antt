use mathlib.Core.Path.{◌≡◌, sym, ap, ◌∙◌}
use Prim.Native.Nat.{ℕ, ◌+◌, ◌-◌}
use native.Mathlib.Omega.{arith}
use Rattle.aiger.specs.Reading.{lines_from}
use Rattle.words.specs.Found.{item_of}
use Rattle.aiger_read.proofs.HeaderReadLaws.{line_next, line_wrong, lines_done}
use Rattle.aiger_read.proofs.start.lines_from.Goals as goal

pub loop-preserved : goal.loop-preserved
loop-preserved c =
    let one : c.args.lines - (c.loop.counter + 1) ≡ c.args.lines - c.loop.counter - 1 = omega arith in
    ap (λ (n : ℕ). lines_from c.args.bytes.now c.args.most n c.in_ok-i.field-0.next) one
    ∙ (sym (line_next c.args.bytes.now _ _ _ _ (omega arith) (sym c.field_at.ensures ∙ c.in_ok-i.was)) ∙ c.loop.invariant)

pub returns-in_err-i : goal.returns-in_err-i
returns-in_err-i c =
    let none = line_wrong c.args.bytes.now _ _ (c.args.lines - c.loop.counter) (omega arith) (sym c.field_at.ensures ∙ c.in_err-i.was) in
    c.from_residual.ensures ∙ ap item_of (sym none ∙ c.loop.invariant)

pub returns : goal.returns
returns c =
    ap item_of (sym (lines_done c.args.bytes.now _ _ _ (omega arith)) ∙ c.loop.invariant)
