use mathlib.Core.Path.{◌≡◌, ap, sym, ◌∙◌}
use Prim.Native.Nat.{ℕ, ◌<◌}
use native.Mathlib.Omega.{arith}
use lib.ListN.{length}
use mathlib.Core.List.{List}
use Rattle.plan_record.specs.Record.{majors_of}
use Rattle.plan_blocks.specs.TableFill.{stage_rows, allot_rows}
use Rattle.plan_table.proofs.PartTableLaws.{allot_long}
use Rattle.plan_table.proofs.AllPartsLaws.{majors_few, layout_few, firsts_none, stage_ready, allot_none, allot_more}
use Rattle.plan_table.proofs.table.allot_stages.Goals as goal

pub overflow_add-at : goal.overflow_add-at
overflow_add-at c =
    omega (arith, c.layout_of.ensures, layout_few _ c.requires.tallied.ready.form)

pub loop-s-init : goal.loop-s-init
loop-s-init c = (firsts_none _ _ c.layout_of.ensures, sym (allot_none _ _))

pub count_at-requires : goal.count_at-requires
count_at-requires c =
    omega (arith, majors_few _ c.requires.tallied.ready.form, c.majors_of-s-end.ensures)

pub allot_stage-at-requires : goal.allot_stage-at-requires
allot_stage-at-requires c =
    let u : c.loop-s.s < majors_of c.args.d.now = omega (arith, c.majors_of-s-end.ensures) in
    stage_ready _ c.args.room.now c.loop-s.room c.loop-s.s _ _ c.loop-s.at c.requires c.loop-s.invariant.1 u c.blocks_of-blocks.ensures c.count_at.ensures c.loop-s.invariant.0

pub loop-s-preserved : goal.loop-s-preserved
loop-s-preserved c =
    (c.allot_stage-at.ensures.firsts_of, c.allot_stage-at.ensures.room_after ∙ ap (λ (x : List ℕ). stage_rows c.args.d.now x c.loop-s.s) c.loop-s.invariant.1 ∙ sym (allot_more c.args.d.now c.args.room.now c.loop-s.s))

pub shape_of-room : goal.shape_of-room
shape_of-room c = ap length c.loop-s.invariant.1 ∙ allot_long _ _ _

pub returns : goal.returns
returns c =
    let e : c.loop-s.s ≡ majors_of c.args.d.now = omega (arith, c.majors_of-s-end.ensures) in
    c.loop-s.invariant.1 ∙ ap (λ (n : ℕ). allot_rows c.args.d.now c.args.room.now n) e
