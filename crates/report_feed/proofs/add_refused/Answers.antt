-- `report_feed::add_refused` meets its contract: no word becomes too long, and three words are stored. Assumes nothing.
use native.Mathlib.Omega.{arith}
use lib.ListN.{length-set}
use Rattle.report_feed.proofs.FeedLaws.{feedable_short, refused_added}
use Rattle.report_feed.proofs.add_refused.Goals as goal

pub overflow_add-count : goal.overflow_add-count
overflow_add-count c = omega (arith, (feedable_short c.requires.0).refusals c.args.number c.requires.1)

pub bounds-batch-7 : goal.bounds-batch-7
bounds-batch-7 c = simp length-set (omega (arith, c.requires.0.whole))

pub bounds-batch-at-2 : goal.bounds-batch-at-2
bounds-batch-at-2 c = simp length-set (omega (arith, c.requires.0.whole, c.requires.1))

pub returns : goal.returns
returns c = refused_added c.args.n c.args.number c.args.batch.now
