-- `reads_local::find_pair` meets its contract: a search by halves over the set's words.
-- Assumes nothing.
use Rattle.std.proofs.Common.{rules}
use Rattle.reads_local.specs.Bases.{pair_word_of}
use Rattle.reads_local.proofs.find_pair.Goals as goal

pub returns : goal.returns
returns c =
    (c.partition_point.ensures.least (pair_word_of c.args.set.now) c.args.w c.requires (λ i h b e. search rules), c.partition_point.ensures.most)
