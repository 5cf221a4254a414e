-- `plan_known::part_of` meets its contract. The loop's invariant: `at` is where the body of part k begins.
-- Assumes nothing.
use mathlib.Core.Path.{◌≡◌}
use Rattle.plan_record.specs.Record.{body_at}
use Rattle.plan_known.proofs.part_of.Given as goal

abbrev pub invariant-loop-k : goal.invariant-loop-k
invariant-loop-k l = l.at ≡ body_at l.d l.k
