use mathlib.Core.Path.{◌≡◌, refl, ap, ap₂, sym, ◌∙◌}
use Prim.Native.Nat.{◌+◌}
use native.Mathlib.Omega.{arith}
use Rattle.words.specs.Sum.{sum_to}
use Rattle.words.proofs.SumLaws.{sum_more}
use Rattle.plan_rows.specs.Rows.{cell_at}
use Rattle.plan_rows.proofs.column_sum.Goals as goal

pub loop-p-init : goal.loop-p-init
unfolding sum_to
loop-p-init c = (refl, omega arith)

pub loop-p-preserved : goal.loop-p-preserved
loop-p-preserved c =
    (ap₂ ◌+◌ c.loop-p.invariant.0 c.cell_at.ensures ∙ sym (sum_more (λ q. cell_at c.args.room.now q c.args.k) c.loop-p.p), omega arith)

pub returns : goal.returns
returns c =
    let e : c.loop-p.p ≡ c.args.parts = omega arith in
    (c.loop-p.invariant.0 ∙ ap (sum_to (λ q. cell_at c.args.room.now q c.args.k)) e, omega arith)
