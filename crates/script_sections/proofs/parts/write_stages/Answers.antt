use mathlib.Core.Path.{◌≡◌, ap, ◌∙◌}
use Prim.Native.Nat.{ℕ, ◌+◌, ◌*◌, ◌-◌, ◌≤◌}
use native.Mathlib.Omega.{arith}
use borrow.Rule.Slice.PartMut.{mid_len}
use lib.ListN.{length, replicate}
use Rattle.plan_record.specs.Record.{plan_lanes, stages_of}
use Rattle.script.proofs.PartLengthLaws.{stage_length}
use Rattle.script_sections.proofs.ScriptLaws.{section_in, stages_first, stages_more, stages_end}
use Rattle.script_sections.proofs.parts.write_stages.Goals as goal

pub loop-s-init : goal.loop-s-init
loop-s-init c =
    stages_first (plan_lanes c.args.part.now.d.now) c.args.part.now.d.now c.args.part.now.p c.args.out.now c.requires.1.first

pub slice_bounds-write_later-end : goal.slice_bounds-write_later-end
slice_bounds-write_later-end c =
    let inside : 20 * c.lanes_in-from.result + 20 * c.args.part.now.body.lanes ≤ length c.loop-s.out = let long = c.loop-s.auto.out ∙ c.requires.1.room in
    section_in c.args.part.now.body.lanes (plan_lanes c.args.part.now.d.now) (c.loop-s.s + 1) c.args.part.now.body.stages _ _ c.requires.0.body.lanes c.lanes_in-from.ensures.0 (omega (arith, c.loop-s-test.true)) long in
    inside

pub write_later-requires : goal.write_later-requires
write_later-requires c =
    let inside : 20 * c.lanes_in-from.result + 20 * c.args.part.now.body.lanes ≤ length c.loop-s.out = let long = c.loop-s.auto.out ∙ c.requires.1.room in
    section_in c.args.part.now.body.lanes (plan_lanes c.args.part.now.d.now) (c.loop-s.s + 1) c.args.part.now.body.stages _ _ c.requires.0.body.lanes c.lanes_in-from.ensures.0 (omega (arith, c.loop-s-test.true)) long in
    let from = 20 * c.lanes_in-from.result in
    let long = mid_len from (from + 20 * c.args.part.now.body.lanes) c.loop-s.out (inside) in
    (c.requires.0, omega (arith, c.loop-s-test.true), omega (arith, c.requires.1.wide, c.loop-s.auto.table), omega (arith, long, c.requires.0.body.lanes), c.loop-s.auto.entries ∙ c.requires.2)

pub loop-s-preserved : goal.loop-s-preserved
loop-s-preserved c =
    let inside : 20 * c.lanes_in-from.result + 20 * c.args.part.now.body.lanes ≤ length c.loop-s.out = let long = c.loop-s.auto.out ∙ c.requires.1.room in
    section_in c.args.part.now.body.lanes (plan_lanes c.args.part.now.d.now) (c.loop-s.s + 1) c.args.part.now.body.stages _ _ c.requires.0.body.lanes c.lanes_in-from.ensures.0 (omega (arith, c.loop-s-test.true)) long in
    let from = 20 * c.lanes_in-from.result in
    let to = from + 20 * c.args.part.now.body.lanes in
    let begins = ap (λ (i : ℕ). 20 * i) (c.lanes_in-from.ensures.0 ∙ ap (λ (i : ℕ). i * (c.loop-s.s + 1)) c.requires.0.body.lanes) in
    let fits : length c.write_later.new.out ≡ to - from = omega (arith, ap length c.write_later.ensures.out_after ∙ stage_length (plan_lanes c.args.part.now.d.now) c.args.part.now.d.now c.args.part.now.p (c.loop-s.s + 1), c.requires.0.body.lanes) in
    stages_more (plan_lanes c.args.part.now.d.now) c.args.part.now.d.now c.args.part.now.p c.loop-s.out c.write_later.new.out (c.loop-s.s + 1) from to begins (omega (arith, c.requires.0.body.lanes)) (inside) c.write_later.ensures.out_after c.loop-s.invariant

pub returns : goal.returns
returns c =
    let long = c.loop-s.auto.out ∙ (c.requires.1.room ∙ ap (λ (i : ℕ). 20 * (plan_lanes c.args.part.now.d.now * i)) c.requires.0.body.stages) in
    record {
      table_after = c.clear.ensures ∙ ap (λ (x : ℕ). replicate x 0) c.loop-s.auto.table;
      out_after = stages_end (plan_lanes c.args.part.now.d.now) c.args.part.now.d.now c.args.part.now.p c.loop-s.out (c.loop-s.s + 1) (stages_of c.args.part.now.d.now c.args.part.now.p) long (omega (arith, c.requires.0.body.stages, c.requires.1.some)) c.loop-s.invariant;
    }
