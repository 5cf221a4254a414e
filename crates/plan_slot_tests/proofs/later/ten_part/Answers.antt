use mathlib.Core.Path.{refl, ap, ◌∙◌, sym}
use Prim.Native.Nat.{◌+◌}
use native.Mathlib.Omega.{arith}
use Rattle.plan_record.specs.Record.{plan_lanes}
use Rattle.plan_slots.specs.Slots.{ten_right, over_items}
use Rattle.words.specs.Found.{item_of}
use Rattle.words.proofs.FoundLaws.{item_some, item_none}
use Rattle.plan_slot_tests.proofs.ItemLaws.{stages_first, stages_next, stages_fault, stages_end}
use Rattle.plan_slots.proofs.SlotLaws.{ten_first}
use Rattle.plan_slot_tests.proofs.later.ten_part.Goals as goal

pub loop-s-init : goal.loop-s-init
loop-s-init c =
    (refl, stages_first c.args.part.now.d.now (ten_right c.args.part.now.d.now c.args.part.now.p) c.args.part.now.p c.args.part.now.body.stages c.args.part.now.of.stages c.requires.0 (ten_first c.args.part.now.d.now c.args.part.now.p))

pub ten_stage-requires : goal.ten_stage-requires
ten_stage-requires c =
    (omega (arith, c.loop-s-test.true), omega (arith, c.loop-s.invariant.0, c.requires.1))

pub loop-s-preserved : goal.loop-s-preserved
loop-s-preserved c =
    let n = plan_lanes c.args.part.now.d.now in
    (c.ten_stage.auto.table ∙ c.loop-s.invariant.0, stages_next n (over_items n (ten_right c.args.part.now.d.now c.args.part.now.p)) c.args.part.now.body.stages (c.loop-s.s + 1) _ (omega (arith, c.loop-s-test.true)) c.loop-s.invariant.1 (item_none _ (sym c.ten_stage.ensures ∙ c.in_default.is)))

pub shape_of-table-in-Some : goal.shape_of-table-in-Some
shape_of-table-in-Some c =
    c.ten_stage.auto.table ∙ c.loop-s.invariant.0

pub returns-in-Some : goal.returns-in-Some
returns-in-Some c =
    let n = plan_lanes c.args.part.now.d.now in
    ap item_of (stages_fault n (over_items n (ten_right c.args.part.now.d.now c.args.part.now.p)) c.args.part.now.body.stages (c.loop-s.s + 1) _ (omega (arith, c.loop-s-test.true)) c.loop-s.invariant.1 _ (item_some _ _ (sym c.ten_stage.ensures ∙ c.in-Some.is)))

pub returns : goal.returns
returns c =
    let n = plan_lanes c.args.part.now.d.now in
    ap item_of (stages_end n (over_items n (ten_right c.args.part.now.d.now c.args.part.now.p)) c.args.part.now.body.stages (c.loop-s.s + 1) _ (omega arith) c.loop-s.invariant.1)
