-- One section, then the rest.
-- Assumes nothing.
use mathlib.Core.Path.{◌≡◌, sym, ap, ap₂, ◌∙◌}
use mathlib.Core.List.{◌++◌}
use Prim.Native.Nat.{◌*◌}
use native.Mathlib.Omega.{arith}
use lib.ListN.{length, take}
use lib.Seq.{length-take-le}
use Rattle.plan_record.specs.Record.{plan_lanes}
use Rattle.script.proofs.PartLengthLaws.{sram_length}
use Rattle.script.proofs.PutMidLaws.{two_parts}
use Rattle.script_sections.proofs.parts.write_tables.Goals as goal

pub slice_bounds-write_sram-end : goal.slice_bounds-write_sram-end
slice_bounds-write_sram-end c =
    omega (arith, c.requires.1, c.requires.0.body.lanes)

pub slice_bounds-write_sram-end-2 : goal.slice_bounds-write_sram-end-2
slice_bounds-write_sram-end-2 c =
    let half : length (take (20 * c.args.part.now.body.lanes) c.args.out.now) ≡ 20 * c.args.part.now.body.lanes = length-take-le (20 * c.args.part.now.body.lanes) c.args.out.now (omega (arith, c.requires.1, c.requires.0.body.lanes)) in
    sym (half)

pub write_sram-requires : goal.write_sram-requires
write_sram-requires c =
    let half : length (take (20 * c.args.part.now.body.lanes) c.args.out.now) ≡ 20 * c.args.part.now.body.lanes = length-take-le (20 * c.args.part.now.body.lanes) c.args.out.now (omega (arith, c.requires.1, c.requires.0.body.lanes)) in
    (c.requires.0, omega (arith, half, c.requires.0.body.lanes), c.requires.2)

pub returns : goal.returns
returns c =
    let long : length c.write_sram.new.out ≡ 20 * c.args.part.now.body.lanes = omega (arith, ap length c.write_sram.ensures ∙ sram_length (plan_lanes c.args.part.now.d.now) c.args.part.now.d.now c.args.part.now.p, c.requires.0.body.lanes) in
    two_parts (20 * c.args.part.now.body.lanes) c.args.out.now c.write_sram.new.out c.write_enables.new.out long ∙ ap₂ ◌++◌ c.write_sram.ensures c.write_enables.ensures
