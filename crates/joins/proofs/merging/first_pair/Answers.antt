-- `first_pair`: where one set is at its end the pair is the other's.
-- Assumes nothing.
use mathlib.Core.Path.{◌∙◌}
use native.Mathlib.Omega.{arith}
use Rattle.joins.proofs.JoinPassLaws.{first_alone, second_alone}
use Rattle.joins.proofs.merging.first_pair.Goals as goal

pub returns-then-b-eq0 : goal.returns-then-b-eq0
returns-then-b-eq0 c = c.of_first.ensures ∙ first_alone c.args.a.now c.args.b.now c.if-b-eq0.true

pub returns-then-a-eq0 : goal.returns-then-a-eq0
returns-then-a-eq0 c =
    c.of_second.ensures ∙ second_alone c.args.a.now c.args.b.now c.if-b-eq0.false c.if-a-eq0.true

pub of_first-requires : goal.of_first-requires
of_first-requires c = omega (arith, c.requires.first, c.requires.some_words, c.if-b-eq0.true)

pub of_second-requires : goal.of_second-requires
of_second-requires c = omega (arith, c.requires.second, c.requires.some_words, c.if-a-eq0.true)

pub lower_pair-requires : goal.lower_pair-requires
lower_pair-requires c =
    record { first = omega (arith, c.requires.first, c.if-a-eq0.false); second = omega (arith, c.requires.second, c.if-b-eq0.false) }
