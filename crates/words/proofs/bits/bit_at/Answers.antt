-- `words::bits::bit_at` meets its contract: a mask of 1 is the rest by 2.
-- Assumes nothing.
use lib.Bits.{and_mask}
use Rattle.words.specs.Bit.{bit, bit_at}
use Rattle.words.proofs.bits.bit_at.Goals as goal

pub returns : goal.returns
unfolding bit bit_at
returns c = and_mask _ 1
