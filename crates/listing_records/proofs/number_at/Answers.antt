-- `listing_records::number_at` meets its contract: the sum is the definition itself. Assumes nothing.
use Rattle.listing_records.specs.Records.{number_at}
use borrow.Author.Rules.{rules}
use Rattle.listing_records.proofs.number_at.Goals as goal

pub returns : goal.returns
unfolding number_at
returns c = search rules
