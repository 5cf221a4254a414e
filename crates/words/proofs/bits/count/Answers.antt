-- `words::bits::count` meets its contract: the machine's count is the count by fuel.
-- Assumes nothing.
use mathlib.Core.Path.{sym}
use Rattle.words.proofs.PopLaws.{pop_ones}
use Rattle.words.proofs.bits.count.Goals as goal

pub returns : goal.returns
returns c = sym (pop_ones c.args.m c.ranges.m.fits)
