-- `plan_reads::check::check_reads` meets its contract. The loop's invariant: what the parts that are left say of 3, 21, 22 and 4 is what all say, and the
-- rows of those before them have their rounds and piece sizes.
-- Assumes nothing.
use mathlib.Core.Path.{◌≡◌}
use lib.ListN.{length}
use Rattle.plan_reads.specs.PartReadAnswers.{read_rows}
use Rattle.plan_reads.proofs.CheckLaws.{Passing}
use Rattle.plan_reads.proofs.check.check_reads.Given as goal

abbrev pub invariant-loop-p : goal.invariant-loop-p
invariant-loop-p l =
    Passing l.d l.at l.found l.p × (l.room ≡ read_rows l.d l.initial.room l.p) × (length l.keys ≡ length l.initial.keys) × (length l.scratch ≡ length l.initial.scratch) × (length l.set ≡ length l.initial.set)
