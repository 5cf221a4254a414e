-- The state is too large; or it is not, and SRAM decides.
-- Assumes nothing.
use mathlib.Core.Path.{ap, ◌∙◌}
use Prim.Native.Nat.{ℕ}
use native.Mathlib.Omega.{arith}
use borrow.Author.Tests.{lt-leb}
use lib.Dec.{leb}
use Rattle.plan_table.proofs.AllPartsLaws.{state_over, state_within}
use Rattle.plan_table.proofs.table.totals_fit.Goals as goal

pub returns-else-state_words-le134217728 : goal.returns-else-state_words-le134217728
returns-else-state_words-le134217728 c = lt-leb _ _ c.if-state_words-le134217728.false ∙ state_over _ (omega (arith, c.state_words.ensures))

pub returns-then-state_words-le134217728 : goal.returns-then-state_words-le134217728
returns-then-state_words-le134217728 c =
    ap (λ (x : ℕ). leb x 4294967295) c.sram_words.ensures ∙ state_within _ (omega (arith, c.state_words.ensures))
