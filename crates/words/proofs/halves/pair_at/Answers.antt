-- `words::halves::pair_at` meets its contract: the two halves do not overlap, so `|` is their sum.
-- Assumes nothing.
use Rattle.words.proofs.SectionLaws.{halves_join}
use Rattle.words.proofs.halves.pair_at.Goals as goal

pub returns : goal.returns
returns c = halves_join _ _ c.requires.1 c.requires.2
