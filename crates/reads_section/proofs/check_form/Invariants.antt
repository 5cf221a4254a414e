-- `check_form`: what is left from pair i on, with the word after the last one as the least, breaks the form where the whole does.
-- Assumes nothing.
use mathlib.Core.Path.{◌≡◌}
use Rattle.reads.specs.ReadSet.{pairs_of, broken}
use Rattle.reads_section.proofs.PairFormLaws.{brokenAt}
use Rattle.reads_section.proofs.check_form.Given as goal

abbrev pub invariant-loop-i : goal.invariant-loop-i
invariant-loop-i l = brokenAt l.set l.i l.low ≡ broken (pairs_of l.set)
