-- `words::halves::put_four` meets its contract: its four stores are one run.
-- Assumes nothing.
use lib.ListN.{get_or}
use Rattle.words.proofs.SectionLaws.{four_sets}
use Rattle.words.proofs.halves.put_four.Goals as goal

pub returns : goal.returns
returns c =
    four_sets
    (λ i. get_or c.args.entries.now i 0)
    c.args.s.now
    c.args.w
    c.args.p
    _
    _
    _
    _
    c.pair_at-a.ensures
    c.pair_at-b.ensures
    c.pair_at-c.ensures
    c.pair_at-e.ensures
