use Rattle.std.proofs.Common.{◌+◌, arith}
use Rattle.plan_record.specs.Record.{table_at}
use Rattle.script.proofs.FilledSliceLaws.{fill_none, fill_more, fill_end}
use Rattle.script_sections.proofs.sections.read_table.Goals as goal

pub loop-i-init : goal.loop-i-init
loop-i-init c = fill_none _

pub loop-i-preserved : goal.loop-i-preserved
loop-i-preserved c =
    fill_more (λ k. table_at c.args.part.now.d.now c.args.part.now.p (c.args.from + k)) c.loop-i.out c.loop-i.i _ (omega arith) c.table_word.ensures c.loop-i.invariant

pub returns : goal.returns
returns c = fill_end _ c.loop-i.out c.loop-i.i _ (omega arith) (omega arith) (omega arith) c.loop-i.invariant
