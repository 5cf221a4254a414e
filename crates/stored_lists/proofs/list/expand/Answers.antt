use native.Mathlib.Omega.{arith}
use Rattle.stored_lists.proofs.StoredListLaws.{put_none, put_more, put_all, run_filled}
use Rattle.std.proofs.Common.{rules}
use Rattle.stored_lists.proofs.list.expand.Goals as goal

pub loop-i-init : goal.loop-i-init
loop-i-init c = (omega arith, put_none c.args.file.now c.args.at c.word_at-runs.result c.args.words.now c.word_at-runs.ensures)

pub loop-i-preserved : goal.loop-i-preserved
loop-i-preserved c = (
  search rules,
  put_more c.args.file.now c.args.at c.word_at-runs.result c.loop-i.i
      c.loop-i.filled c.word_at-count.result c.word_at.result c.loop-i.words _ (omega arith)
      c.loop-i.invariant.1 c.word_at-count.ensures c.word_at.ensures (run_filled c.loop-i.words _ c.loop-i.filled c.word_at-count.result c.word_at.result (omega arith) (search rules)),
)

pub returns : goal.returns
returns c =
    (omega arith, put_all c.args.file.now c.args.at c.word_at-runs.result c.loop-i.i c.loop-i.filled c.loop-i.words (omega arith) c.loop-i.invariant.1)
