-- `judge_pairs`: what is left to judge ends as the whole does, and what was judged stands in the table and in the marks.
-- Assumes nothing.
use Prim.Native.Nat.{◌*◌}
use Rattle.handed.proofs.PairJudgeLaws.{Judging}
use Rattle.handed.proofs.fill.judge_pairs.Given as goal

abbrev pub invariant-loop-k : goal.invariant-loop-k
invariant-loop-k l = Judging l.set l.lanes l.n l.table l.seen l.lane l.place l.b (2 * l.k)
