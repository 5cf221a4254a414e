use Rattle.std.proofs.Common.{◌∙◌, arith}
use Rattle.script.proofs.SectionsLaws.{lanes_none, lanes_more, lanes_end}
use Rattle.script_sections.proofs.sections.write_lanes.Goals as goal

pub loop-w-init : goal.loop-w-init
loop-w-init g c = λ e f h same. lanes_none e f h

pub loop-w-preserved : goal.loop-w-preserved
loop-w-preserved g c = λ e f h same. lanes_more e f h c.loop-w.out _ c.loop-w.w (omega arith) (c.copy_from_slice.ensures.after ∙ same _ c.loop-w-test.true _ c.words.ensures) (c.loop-w.invariant e f h same)

pub returns : goal.returns
returns g c = λ e f h same. lanes_end e f h c.loop-w.out c.loop-w.w _ (omega arith) (omega arith) (omega arith) (c.loop-w.invariant e f h same)
