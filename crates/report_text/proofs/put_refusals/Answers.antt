use native.Mathlib.Omega.{arith}
use Rattle.text.proofs.WritingLaws.{writing_start, writing_more, writing_done}
use Rattle.report.specs.BatchText.{refused_line}
use Rattle.report_text.proofs.ReportLineLaws.{refusals_step, refusals_end}
use Rattle.report_text.proofs.put_refusals.Goals as goal

pub loop-k-init : goal.loop-k-init
loop-k-init c = writing_start _ _

pub loop-k-preserved : goal.loop-k-preserved
loop-k-preserved c =
    writing_more c.loop-k.invariant (refused_line c.args.batch.now c.loop-k.k) _ (refusals_step c.args.batch.now c.loop-k.k c.loop-k-test.true) c.put_refusal.ensures (omega arith)

pub returns : goal.returns
returns c = writing_done c.loop-k.invariant 2080 (refusals_end c.args.batch.now c.loop-k.k c.loop-k-test.false) (omega arith)
