-- `lower_pair`: each way through the tests is one case of the definition.
-- Assumes nothing.
use mathlib.Core.Path.{◌∙◌}
use native.Mathlib.Omega.{arith}
use Rattle.joins.proofs.JoinPassLaws.{first_less, first_same, first_more}
use Rattle.joins.proofs.merging.lower_pair.Goals as goal

pub returns-then-w-v : goal.returns-then-w-v
returns-then-w-v c =
    c.of_first.ensures ∙ first_less c.args.a.now c.args.b.now (λ e. omega (arith, c.requires.second)) (λ e. omega (arith, c.requires.first)) c.if-w-v.true

pub returns-then-w-v-2 : goal.returns-then-w-v-2
returns-then-w-v-2 c =
    first_same c.args.a.now c.args.b.now (λ e. omega (arith, c.requires.second)) (λ e. omega (arith, c.requires.first)) c.if-w-v-2.true

pub returns : goal.returns
returns c =
    c.of_second.ensures ∙ first_more c.args.a.now c.args.b.now (λ e. omega (arith, c.requires.second)) (λ e. omega (arith, c.requires.first))
    (omega (arith, c.if-w-v-2.false, c.if-w-v.false))
