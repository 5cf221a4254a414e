-- The place is a place's of the definitions.
-- Assumes nothing.
use Rattle.std.proofs.Common.{ap, arith}
use Rattle.plan_checks.specs.Verdicts.{lowest_place}
use Rattle.plan_checks.proofs.tell.of_lowest.Goals as goal

pub overflow_cast-result : goal.overflow_cast-result
overflow_cast-result c = omega (arith, c.requires _ (ap lowest_place c.in-Some.is))
