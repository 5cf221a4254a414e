use Rattle.std.proofs.Common.{◌≡◌, ℕ, ◌-◌, ap, sym, ◌∙◌, arith}
use Rattle.plan_blocks.specs.Blocks.{least_to}
use Rattle.plan_blocks.specs.TableFill.{costs_of}
use Rattle.plan_blocks.proofs.LeastCostLaws.{least_start, least_here, least_kept}
use Rattle.plan_blocks.proofs.BlockCostLaws.{cost_at}
use Rattle.plan_blocks.proofs.costs.least_block.Goals as goal
use Rattle.plan_blocks.proofs.costs.least_block.Goals.{then-blocks-i, else-blocks-i}

pub loop-i-init : goal.loop-i-init
loop-i-init c = (omega arith, sym (least_start _))

pub loop-i-preserved : goal.loop-i-preserved
loop-i-preserved c =
    let costs = costs_of c.args.n c.args.blocks.now in
    let here = cost_at c.args.n c.args.blocks.now c.loop-i.i (omega arith) in
    let least = cost_at c.args.n c.args.blocks.now c.loop-i.best (omega arith) in
    elim c.if-blocks-i.branch [
      | then-blocks-i w ↦ (omega arith, w.best-is ∙ least_here costs c.loop-i.best c.loop-i.i (omega arith) c.loop-i.invariant.1 (omega (arith, here, least, w.if-blocks-i.true)))
      | else-blocks-i w ↦ (omega arith, w.best-is ∙ least_kept costs c.loop-i.best c.loop-i.i (omega arith) c.loop-i.invariant.1 (omega (arith, here, least, w.if-blocks-i.false)))
    ]

pub returns : goal.returns
returns c =
    let e : c.loop-i.i ≡ c.args.n = omega arith in
    (c.loop-i.invariant.1 ∙ ap (λ (m : ℕ). least_to (costs_of c.args.n c.args.blocks.now) (m - 1)) e, omega arith)
