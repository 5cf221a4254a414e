-- `words::bits::count_above` meets its contract: two shifts are one.
-- Assumes nothing.
use mathlib.Core.Path.{ap, ◌∙◌}
use lib.Pow.{shr-shr}
use Rattle.words.specs.Bit.{pop}
use Rattle.words.proofs.bits.count_above.Goals as goal

pub returns : goal.returns
returns c = c.count.ensures ∙ ap pop (shr-shr c.args.m c.args.k 1)
