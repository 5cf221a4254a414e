-- The gates' pins ascend where refusal 6 is excluded.
-- Assumes nothing.
use Rattle.std.proofs.Common.{rules}
use Rattle.gatelist.specs.ListWords.{list_pin}
use Rattle.gatelist.proofs.ListWordLaws.{ascending}
use Rattle.gatelist.proofs.first_not_below.Goals as goal

pub returns : goal.returns
returns c = c.partition_point.ensures.least (list_pin c.args.l.now) c.args.pin.0 (ascending c.args.l.now c.requires) (λ i h b e. search rules)
