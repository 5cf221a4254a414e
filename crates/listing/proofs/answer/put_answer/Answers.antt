-- `listing::answer::put_answer` meets its contract, case by case. Assumes nothing.
use Rattle.listing.proofs.AnswerTextLaws.{wrote_unlisted}
use Rattle.listing.proofs.answer.put_answer.Goals as goal

pub returns-in-Err : goal.returns-in-Err
returns-in-Err c =
    rw c.in-Err.is (wrote_unlisted c.args.section.now.lanes c.args.section.now.words.now _ c.put_unlisted.ensures)
