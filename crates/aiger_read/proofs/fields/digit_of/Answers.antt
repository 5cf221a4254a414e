-- `aiger_read::fields::digit_of` meets its contract: a byte from 0 to 9. Assumes nothing.
use mathlib.Core.Logic.{⊎_elim}
use Prim.Native.Nat.{◌<◌}
use native.Mathlib.Omega.{arith}
use Rattle.aiger_read.proofs.FieldLaws.{digit_none, digit_value}
use Rattle.aiger_read.proofs.fields.digit_of.Goals as goal

pub returns-then-is_ascii_digit : goal.returns-then-is_ascii_digit
returns-then-is_ascii_digit c = let k = c.if-is_ascii_digit.ensures.cases in digit_value _ k.0 k.1

pub returns-else-is_ascii_digit : goal.returns-else-is_ascii_digit
returns-else-is_ascii_digit c =
    digit_none _ (λ d. ⊎_elim (λ (l : c.args.b < 48). omega (arith, d.0)) (λ (l : 57 < c.args.b). omega (arith, d.1)) c.if-is_ascii_digit.ensures.cases)
