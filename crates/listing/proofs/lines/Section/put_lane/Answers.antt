use native.Mathlib.Nat.{sub-zero}
use native.Mathlib.Omega.{arith}
use Rattle.text.proofs.WritingLaws.{writing_start, writing_more, writing_done}
use Rattle.listing.proofs.SectionLineLaws.{next_round, last_round}
use Rattle.listing.proofs.lines.Section.put_lane.Goals as goal

pub loop-round-init : goal.loop-round-init
loop-round-init c = rw sub-zero (writing_start _ _)

pub loop-round-preserved : goal.loop-round-preserved
loop-round-preserved c =
    let part = c.args.self.now in
    writing_more c.loop-round.invariant _ _ (next_round part.lanes part.words.now _ _ _ c.loop-round-test.true) c.put_place.ensures (omega arith)

pub returns : goal.returns
returns c = writing_done c.loop-round.invariant _ (last_round _ c.args.self.now.words.now _ _ _ c.loop-round-test.false) (omega arith)
