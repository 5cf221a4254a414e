use mathlib.Core.Path.{◌≡◌, ap, ◌∙◌}
use native.Mathlib.Omega.{arith}
use Rattle.script_assembly.specs.WrittenSoFar.{empty_blocks}
use Rattle.flatten.proofs.ScriptSizeLaws.{majors_few, empty_none, empty_more}
use Rattle.plan_record.specs.Record.{majors_of}
use Rattle.flatten.proofs.sizes.empty_blocks.Goals as goal

pub loop-s-init : goal.loop-s-init
loop-s-init c = (empty_none c.args.d.now, omega arith)

pub loop-s-preserved : goal.loop-s-preserved
loop-s-preserved c = (
  empty_more c.args.d.now c.loop-s.s c.loop-s.sum c.saturating_sub.result _ _ c.loop-s.invariant.0 c.blocks_of-blocks.ensures c.count_at.ensures c.saturating_sub.ensures,
  omega (arith, c.loop-s.invariant.1),
)

pub returns : goal.returns
returns c =
    let e : c.loop-s.s ≡ majors_of c.args.d.now = omega (arith, c.majors_of-majors.ensures) in
    (c.loop-s.invariant.0 ∙ ap (empty_blocks c.args.d.now) e, omega (arith, c.loop-s.invariant.1, majors_few c.args.d.now c.args.room.now c.requires))
