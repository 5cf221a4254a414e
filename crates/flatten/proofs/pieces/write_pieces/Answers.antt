use mathlib.Core.Path.{◌≡◌, refl, ap, ◌∙◌}
use Prim.Native.Nat.{ℕ, ◌<◌}
use native.Mathlib.Omega.{arith}
use lib.Seq.{sets}
use Rattle.words.specs.Section.{list_of}
use Rattle.plan_record.specs.Record.{plan_lanes, parts_of}
use Rattle.plan_reads.specs.PartReads.{part_size}
use Rattle.script_layout.proofs.RowLaws.{parts_few, cell_in}
use Rattle.flatten.specs.Flatten.{piece_sizes}
use Rattle.flatten.proofs.ScriptSizeLaws.{majors_few}
use Rattle.flatten.proofs.BuildAnswerLaws.{pieces_more}
use Rattle.flatten.proofs.pieces.write_pieces.Goals as goal

pub parts_of-parts-requires : goal.parts_of-parts-requires
parts_of-parts-requires c = majors_few c.args.d.now c.args.room.now c.requires.0

pub loop-p-init : goal.loop-p-init
unfolding list_of
loop-p-init c = refl

pub cell_at-requires : goal.cell_at-requires
cell_at-requires c =
    let inside : c.loop-p.p < parts_of c.args.d.now = omega (arith, c.parts_of-parts.ensures.0) in
    cell_in _ _ c.requires.0 _ (inside) _ (omega arith)

pub offset_bounds-pieces-p : goal.offset_bounds-pieces-p
offset_bounds-pieces-p c =
    let inside : c.loop-p.p < parts_of c.args.d.now = omega (arith, c.parts_of-parts.ensures.0) in
    omega (arith, inside, parts_few _ _ c.requires.0)

pub bounds-pieces-p : goal.bounds-pieces-p
bounds-pieces-p c =
    let inside : c.loop-p.p < parts_of c.args.d.now = omega (arith, c.parts_of-parts.ensures.0) in
    omega (arith, inside, c.loop-p.auto.pieces, c.requires.1)

pub loop-p-preserved : goal.loop-p-preserved
loop-p-preserved c =
    let inside : c.loop-p.p < parts_of c.args.d.now = omega (arith, c.parts_of-parts.ensures.0) in
    let is = c.cell_at.ensures ∙ c.requires.0.ready.sizes _ (inside) in
    pieces_more c.args.d.now c.args.pieces.now _ c.loop-p.p _ c.loop-p.invariant is

pub shape_of-pieces : goal.shape_of-pieces
shape_of-pieces c = c.loop-p.auto.pieces

pub returns : goal.returns
unfolding piece_sizes
returns c =
    let e : c.loop-p.p ≡ parts_of c.args.d.now = omega (arith, c.parts_of-parts.ensures.0) in
    c.loop-p.invariant ∙ ap (λ (n : ℕ). sets c.args.pieces.now 0 (list_of (part_size (plan_lanes c.args.d.now) c.args.d.now) n)) e
