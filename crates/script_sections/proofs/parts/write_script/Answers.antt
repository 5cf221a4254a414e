-- The head, the stages and the tables are written around what stands there.
-- Assumes nothing.
use mathlib.Core.Path.{◌≡◌, sym, ◌∙◌}
use Prim.Native.Nat.{◌+◌, ◌*◌}
use native.Mathlib.Omega.{arith}
use lib.ListN.{length, take}
use lib.Seq.{length-take-le}
use Rattle.script_sections.proofs.ScriptLaws.{whole, inside, stages_room, tables_room, tables_begin, script_made}
use Rattle.script_sections.proofs.parts.write_script.Goals as goal

pub slice_bounds-write_head-end : goal.slice_bounds-write_head-end
slice_bounds-write_head-end c =
    let long : length c.args.out.now ≡ c.args.part.now.body.lanes + 2 * c.lanes_in.result + 20 * c.lanes_in-2.result + 40 * c.args.part.now.body.lanes =
    whole c.args.part.now.d.now c.args.part.now.p c.args.part.now.body c.args.x c.args.table.now c.args.out.now c.requires.0.body.stages c.requires.1 _ _ _ c.requires.0.body.lanes c.lanes_in.ensures.0 c.lanes_in-2.ensures.0 in
    omega (arith, long)

pub slice_bounds-write_head-end-2 : goal.slice_bounds-write_head-end-2
slice_bounds-write_head-end-2 c =
    let long : length c.args.out.now ≡ c.args.part.now.body.lanes + 2 * c.lanes_in.result + 20 * c.lanes_in-2.result + 40 * c.args.part.now.body.lanes =
    whole c.args.part.now.d.now c.args.part.now.p c.args.part.now.body c.args.x c.args.table.now c.args.out.now c.requires.0.body.stages c.requires.1 _ _ _ c.requires.0.body.lanes c.lanes_in.ensures.0 c.lanes_in-2.ensures.0 in
    let head_long : length (take c.args.part.now.body.lanes c.args.out.now) ≡ c.args.part.now.body.lanes = length-take-le c.args.part.now.body.lanes c.args.out.now (omega (arith, long)) in
    sym (head_long)

pub write_head-requires : goal.write_head-requires
write_head-requires c =
    let long : length c.args.out.now ≡ c.args.part.now.body.lanes + 2 * c.lanes_in.result + 20 * c.lanes_in-2.result + 40 * c.args.part.now.body.lanes =
    whole c.args.part.now.d.now c.args.part.now.p c.args.part.now.body c.args.x c.args.table.now c.args.out.now c.requires.0.body.stages c.requires.1 _ _ _ c.requires.0.body.lanes c.lanes_in.ensures.0 c.lanes_in-2.ensures.0 in
    let head_long : length (take c.args.part.now.body.lanes c.args.out.now) ≡ c.args.part.now.body.lanes = length-take-le c.args.part.now.body.lanes c.args.out.now (omega (arith, long)) in
    (c.requires.0, head_long ∙ c.requires.0.body.lanes)

pub slice_bounds-write_stages-end : goal.slice_bounds-write_stages-end
slice_bounds-write_stages-end c =
    let long : length c.args.out.now ≡ c.args.part.now.body.lanes + 2 * c.lanes_in.result + 20 * c.lanes_in-2.result + 40 * c.args.part.now.body.lanes =
    whole c.args.part.now.d.now c.args.part.now.p c.args.part.now.body c.args.x c.args.table.now c.args.out.now c.requires.0.body.stages c.requires.1 _ _ _ c.requires.0.body.lanes c.lanes_in.ensures.0 c.lanes_in-2.ensures.0 in
    let head_long : length (take c.args.part.now.body.lanes c.args.out.now) ≡ c.args.part.now.body.lanes = length-take-le c.args.part.now.body.lanes c.args.out.now (omega (arith, long)) in
    inside c.args.part.now.d.now c.args.part.now.p c.args.part.now.body c.args.x c.args.table.now c.args.out.now c.requires.0.body.stages c.requires.1 _ _ _ c.requires.0.body.lanes c.lanes_in.ensures.0 c.lanes_in-2.ensures.0
    c.write_head.new.out (c.write_head.auto.out ∙ head_long)

pub write_stages-requires : goal.write_stages-requires
write_stages-requires c =
    let long : length c.args.out.now ≡ c.args.part.now.body.lanes + 2 * c.lanes_in.result + 20 * c.lanes_in-2.result + 40 * c.args.part.now.body.lanes =
    whole c.args.part.now.d.now c.args.part.now.p c.args.part.now.body c.args.x c.args.table.now c.args.out.now c.requires.0.body.stages c.requires.1 _ _ _ c.requires.0.body.lanes c.lanes_in.ensures.0 c.lanes_in-2.ensures.0 in
    let head_long : length (take c.args.part.now.body.lanes c.args.out.now) ≡ c.args.part.now.body.lanes = length-take-le c.args.part.now.body.lanes c.args.out.now (omega (arith, long)) in
    let room = stages_room c.args.part.now.d.now c.args.part.now.p c.args.part.now.body c.args.x c.args.table.now c.args.out.now c.requires.0.body.stages c.requires.1 _ _ _ c.requires.0.body.lanes c.lanes_in.ensures.0 c.lanes_in-2.ensures.0
    c.write_head.new.out (c.write_head.auto.out ∙ head_long)
    in
    (c.requires.0, room, c.requires.2)

pub slice_bounds-write_tables-start : goal.slice_bounds-write_tables-start
slice_bounds-write_tables-start c =
    let long : length c.args.out.now ≡ c.args.part.now.body.lanes + 2 * c.lanes_in.result + 20 * c.lanes_in-2.result + 40 * c.args.part.now.body.lanes =
    whole c.args.part.now.d.now c.args.part.now.p c.args.part.now.body c.args.x c.args.table.now c.args.out.now c.requires.0.body.stages c.requires.1 _ _ _ c.requires.0.body.lanes c.lanes_in.ensures.0 c.lanes_in-2.ensures.0 in
    let head_long : length (take c.args.part.now.body.lanes c.args.out.now) ≡ c.args.part.now.body.lanes = length-take-le c.args.part.now.body.lanes c.args.out.now (omega (arith, long)) in
    tables_begin c.args.part.now.d.now c.args.part.now.p c.args.part.now.body c.args.x c.args.table.now c.args.out.now c.requires.0.body.stages c.requires.1 _ _ _ c.requires.0.body.lanes c.lanes_in.ensures.0 c.lanes_in-2.ensures.0
    c.write_head.new.out (c.write_head.auto.out ∙ head_long) _ c.write_stages.ensures.out_after

pub slice_bounds-write_tables-count : goal.slice_bounds-write_tables-count
slice_bounds-write_tables-count c = slice_bounds-write_tables-start c

pub write_tables-requires : goal.write_tables-requires
write_tables-requires c =
    let long : length c.args.out.now ≡ c.args.part.now.body.lanes + 2 * c.lanes_in.result + 20 * c.lanes_in-2.result + 40 * c.args.part.now.body.lanes =
    whole c.args.part.now.d.now c.args.part.now.p c.args.part.now.body c.args.x c.args.table.now c.args.out.now c.requires.0.body.stages c.requires.1 _ _ _ c.requires.0.body.lanes c.lanes_in.ensures.0 c.lanes_in-2.ensures.0 in
    let head_long : length (take c.args.part.now.body.lanes c.args.out.now) ≡ c.args.part.now.body.lanes = length-take-le c.args.part.now.body.lanes c.args.out.now (omega (arith, long)) in
    let room = tables_room c.args.part.now.d.now c.args.part.now.p c.args.part.now.body c.args.x c.args.table.now c.args.out.now c.requires.0.body.stages c.requires.1 _ _ _ c.requires.0.body.lanes c.lanes_in.ensures.0 c.lanes_in-2.ensures.0
    c.write_head.new.out (c.write_head.auto.out ∙ head_long) _ c.write_stages.ensures.out_after
    in
    (c.requires.0, room, c.write_stages.auto.entries ∙ c.requires.2)

pub returns : goal.returns
returns c =
    let long : length c.args.out.now ≡ c.args.part.now.body.lanes + 2 * c.lanes_in.result + 20 * c.lanes_in-2.result + 40 * c.args.part.now.body.lanes =
    whole c.args.part.now.d.now c.args.part.now.p c.args.part.now.body c.args.x c.args.table.now c.args.out.now c.requires.0.body.stages c.requires.1 _ _ _ c.requires.0.body.lanes c.lanes_in.ensures.0 c.lanes_in-2.ensures.0 in
    let head_long : length (take c.args.part.now.body.lanes c.args.out.now) ≡ c.args.part.now.body.lanes = length-take-le c.args.part.now.body.lanes c.args.out.now (omega (arith, long)) in
    let made = script_made c.args.part.now.d.now c.args.part.now.p c.args.part.now.body c.args.x c.args.table.now c.args.out.now c.requires.0.body.stages c.requires.1 _ _ _ c.requires.0.body.lanes c.lanes_in.ensures.0 c.lanes_in-2.ensures.0
    c.write_head.new.out (c.write_head.auto.out ∙ head_long) _ c.write_stages.ensures.out_after _ c.write_head.ensures c.write_tables.ensures
    in
    record { table_after = c.write_stages.ensures.table_after; out_after = made }
