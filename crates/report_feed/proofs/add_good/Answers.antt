-- `report_feed::add_good` meets its contract: no word becomes too long. Assumes nothing.
use native.Mathlib.Omega.{arith}
use Rattle.report_part.specs.PartOutcome.{gained_of}
use Rattle.report_feed.proofs.FeedLaws.{feedable_short, good_is}
use Rattle.report_feed.proofs.add_good.Goals as goal

pub overflow_add-totals-2 : goal.overflow_add-totals-2
overflow_add-totals-2 c = omega (arith, (feedable_short c.requires.batch).parts)

pub overflow_add-totals-3 : goal.overflow_add-totals-3
overflow_add-totals-3 c = omega (arith, (feedable_short c.requires.batch).bits, c.requires.bits)

pub overflow_add-totals-4 : goal.overflow_add-totals-4
overflow_add-totals-4 c = omega (arith, (feedable_short c.requires.batch).lanes, c.requires.lanes)

pub overflow_add-totals-5 : goal.overflow_add-totals-5
overflow_add-totals-5 c = omega (arith, (feedable_short c.requires.batch).rounds, c.requires.rounds)

pub overflow_add-totals-6 : goal.overflow_add-totals-6
overflow_add-totals-6 c = omega (arith, (feedable_short c.requires.batch).empty, c.requires.empty)

pub overflow_add-totals-7 : goal.overflow_add-totals-7
overflow_add-totals-7 c = omega (arith, (feedable_short c.requires.batch).words, c.requires.words)

pub returns : goal.returns
returns c = rw c.copy_from_slice.ensures.after (good_is c.args.n (gained_of c.args.gain) c.args.batch.now (omega (arith, c.requires.batch.whole)))
