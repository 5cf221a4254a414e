use native.Mathlib.Omega.{arith}
use lib.ListN.{get_or}
use Rattle.words.proofs.SectionLaws.{lane_more, section_is}
use Rattle.words.proofs.halves.pack.Goals as goal

pub loop-t-init : goal.loop-t-init
loop-t-init c = record { long = c.requires.1; done = λ i l. absurd (omega arith) }

pub loop-t-preserved : goal.loop-t-preserved
loop-t-preserved c =
    lane_more
    c.args.n
    (λ i. get_or c.args.entries.now i 0)
    c.requires.3
    c.loop-t.t
    c.loop-t.s
    _
    _
    _
    _
    (omega arith)
    c.put_four.ensures
    c.put_four-in-loop-t.ensures
    c.put_four-in-loop-t-2.ensures
    c.put_four-in-loop-t-3.ensures
    c.loop-t.invariant

pub returns : goal.returns
returns c = section_is _ _ c.loop-t.s c.loop-t.invariant.long (λ i h. c.loop-t.invariant.done i (omega arith))
