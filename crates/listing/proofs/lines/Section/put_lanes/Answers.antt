use native.Mathlib.Nat.{sub-zero}
use native.Mathlib.Omega.{arith}
use Rattle.text.proofs.WritingLaws.{writing_start, writing_more, writing_done}
use Rattle.listing.proofs.SectionLineLaws.{next_lane, last_lane}
use Rattle.listing.proofs.lines.Section.put_lanes.Goals as goal

pub loop-lane-init : goal.loop-lane-init
loop-lane-init c = rw sub-zero (writing_start _ _)

pub loop-lane-preserved : goal.loop-lane-preserved
loop-lane-preserved c =
    let all = c.args.self.now in
    writing_more c.loop-lane.invariant _ _ (next_lane all.lanes all.words.now _ all.lanes _ c.loop-lane-test.true) c.put_lane.ensures (omega arith)

pub returns : goal.returns
returns c =
    writing_done c.loop-lane.invariant _ (last_lane _ c.args.self.now.words.now _ _ _ c.loop-lane-test.false) (omega (arith, c.args.self.now.few))
