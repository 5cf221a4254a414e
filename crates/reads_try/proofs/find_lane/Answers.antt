use mathlib.Core.Path.{◌≡◌, sym, ap, ◌∙◌}
use Prim.Native.Nat.{◌+◌, ◌-◌, ◌≤◌, ◌<◌}
use native.Mathlib.Omega.{arith}
use lib.ListN.{get_or}
use Rattle.words.specs.Found.{item_of}
use Rattle.words.proofs.RoundLaws.{next_lt}
use Rattle.reads_try.proofs.LaneLoadLaws.{free_here, free_on, free_none}
use Rattle.reads_try.proofs.find_lane.Goals as goal

pub returns-then-used-j : goal.returns-then-used-j
returns-then-used-j c =
    let h : get_or c.args.used.now c.loop-passed.j 0 + c.args.b ≤ 32 = omega arith in
    ap item_of (sym (free_here _ _ _ _ _ (omega arith) h) ∙ c.loop-passed.invariant.1)

pub loop-passed-preserved : goal.loop-passed-preserved
loop-passed-preserved c =
    let h : 32 < get_or c.args.used.now c.loop-passed.j 0 + c.args.b = omega arith in
    let less : c.args.lanes - c.loop-passed.passed - 1 ≡ c.args.lanes - (c.loop-passed.passed + 1) = omega arith in
    rw (c.next_of-j.ensures, ← less) (next_lt _ _ c.loop-passed.invariant.0, sym (free_on _ _ _ _ _ (omega arith) h) ∙ c.loop-passed.invariant.1)

pub returns : goal.returns
returns c =
    let z : c.args.lanes - c.loop-passed.passed ≡ 0 = omega arith in
    ap item_of (sym (free_none _ _ _ _) ∙ (rw z at c.loop-passed.invariant.1))
