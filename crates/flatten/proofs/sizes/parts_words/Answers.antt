use mathlib.Core.Path.{◌≡◌, ap, ◌∙◌}
use Prim.Native.Nat.{◌<◌}
use native.Mathlib.Omega.{arith}
use Rattle.words.specs.Sum.{sum_to}
use Rattle.script_assembly.specs.WrittenSoFar.{length_of}
use Rattle.script_layout.proofs.RowLaws.{parts_few, cell_in}
use Rattle.flatten.proofs.ScriptSizeLaws.{majors_few, parts_none, parts_next}
use Rattle.plan_record.specs.Record.{plan_lanes, parts_of}
use Rattle.flatten.proofs.sizes.parts_words.Goals as goal

pub parts_of-parts-requires : goal.parts_of-parts-requires
parts_of-parts-requires c = majors_few c.args.d.now c.args.room.now c.requires

pub loop-p-init : goal.loop-p-init
loop-p-init c =
    (parts_none c.args.d.now c.args.room.now c.requires, omega arith)

pub cell_at-rounds-requires : goal.cell_at-rounds-requires
cell_at-rounds-requires c =
    let inside : c.loop-p.p < parts_of c.args.d.now = omega (arith, c.parts_of-parts.ensures.0) in
    cell_in _ _ c.requires _ (inside) _ (omega arith)

pub stages_at-requires : goal.stages_at-requires
stages_at-requires c =
    let inside : c.loop-p.p < parts_of c.args.d.now = omega (arith, c.parts_of-parts.ensures.0) in
    (c.head_base-heads.ensures.0, c.head_base-heads.ensures.1, omega (arith, inside, parts_few _ _ c.requires))

pub part_words-sum-requires : goal.part_words-sum-requires
part_words-sum-requires c =
    c.lanes_of-lanes.ensures.2

pub overflow_add-sum : goal.overflow_add-sum
overflow_add-sum c =
    let inside : c.loop-p.p < parts_of c.args.d.now = omega (arith, c.parts_of-parts.ensures.0) in
    omega (arith, c.part_words-sum.ensures.1, c.loop-p.invariant.1, inside, parts_few _ _ c.requires)

pub loop-p-preserved : goal.loop-p-preserved
loop-p-preserved c =
    let inside : c.loop-p.p < parts_of c.args.d.now = omega (arith, c.parts_of-parts.ensures.0) in (
      parts_next _ _ c.requires _ c.loop-p.p c.loop-p.sum _ _ _ c.lanes_of-lanes.ensures.0 (inside) c.loop-p.invariant.0 c.cell_at-rounds.ensures c.stages_at.ensures c.part_words-sum.ensures.0,
      omega (arith, c.part_words-sum.ensures.1, c.loop-p.invariant.1),
    )

pub returns : goal.returns
returns c =
    let e : c.loop-p.p ≡ parts_of c.args.d.now = omega (arith, c.parts_of-parts.ensures.0) in
    (c.loop-p.invariant.0 ∙ ap (sum_to (length_of (plan_lanes c.args.d.now) c.args.d.now)) e, omega (arith, c.loop-p.invariant.1, parts_few _ _ c.requires))
