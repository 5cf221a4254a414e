-- `all_marked`: the marks are looked at one after the other.
-- Assumes nothing.
use Rattle.std.proofs.Common.{rules}
use lib.Dec.{eqb}
use Rattle.words.specs.Bit.{bit_at}
use Rattle.handed_pairs.proofs.all_marked.Goals as goal

pub returns : goal.returns
returns c = c.all_below.ensures (λ p. eqb (bit_at c.args.seen.now p) 1) (λ i h b e. search rules)
