use native.Mathlib.Omega.{arith}
use Rattle.script.specs.Script.{location_words}
use Rattle.script.proofs.FilledSliceLaws.{fill_none, fill_more, fill_end}
use Rattle.script.proofs.HeadLaws.{location_word}
use Rattle.script.proofs.head.write_locations.Goals as goal

pub loop-j-init : goal.loop-j-init
loop-j-init c = fill_none _

pub loop-j-preserved : goal.loop-j-preserved
loop-j-preserved c =
    fill_more (location_word c.args.part.now.d.now c.args.part.now.p) c.loop-j.out c.loop-j.j _ (omega arith) c.location_word.ensures c.loop-j.invariant

pub returns : goal.returns
unfolding location_words
returns c =
    let lanes = c.args.part.now.of.lanes in
    fill_end _ c.loop-j.out c.loop-j.j _ (omega arith) (omega arith) (omega arith) c.loop-j.invariant
