-- The three ends of refusal 7 in a part.
-- Assumes nothing.
use native.Mathlib.Omega.{arith}
use Rattle.plan_counts.proofs.PartCountLaws.{counts_location, counts_fine, counts_many}
use Rattle.plan_counts.proofs.bad_counts.Goals as goal

pub returns-in-Some : goal.returns-in-Some
returns-in-Some c = counts_location _ _ _ c.first_bad_location.ensures _ c.in-Some.is

pub returns-then-counts-part : goal.returns-then-counts-part
returns-then-counts-part c =
    counts_fine _ _ _ c.first_bad_location.ensures c.in_default.is (omega (arith, c.counts_of-counts.ensures.words_are, c.args.part.now.of.lanes, c.if-counts-part.true))

pub returns : goal.returns
returns c =
    counts_many _ _ _ c.first_bad_location.ensures c.in_default.is _ c.args.part.now.of.locations (omega (arith, c.counts_of-counts.ensures.words_are, c.args.part.now.of.lanes, c.if-counts-part.false))
