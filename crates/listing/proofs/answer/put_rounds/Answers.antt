-- `listing::answer::put_rounds` meets its contract: the first line, then the lines of the lanes. Assumes nothing.
use Rattle.listing.proofs.AnswerTextLaws.{wrote_rounds}
use Rattle.listing.proofs.answer.put_rounds.Goals as goal

pub returns : goal.returns
returns c = wrote_rounds c.args.section.now.lanes c.args.section.now.words.now _ c.put_bytes.ensures c.put_number.ensures c.put_lanes.ensures
