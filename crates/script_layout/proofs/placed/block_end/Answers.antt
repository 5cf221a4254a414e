use mathlib.Core.Path.{◌≡◌, sym, ap, ◌∙◌}
use Prim.Native.Nat.{ℕ, ◌<◌}
use native.Mathlib.Omega.{arith}
use Rattle.plan_record.specs.Record.{parts_of}
use Rattle.plan_rows.specs.Columns as col
use Rattle.plan_rows.specs.Rows.{cell_at}
use Rattle.script_assembly.specs.WrittenSoFar.{ranked_at}
use Rattle.script_layout.proofs.RowLaws.{plan_formed, cell_in}
use Rattle.script_layout.proofs.PlacedLaws.{end_in, parts_are, to_in, rank_in, block_on, block_off}
use Rattle.script_layout.proofs.placed.block_end.Goals as goal

pub overflow_add-s : goal.overflow_add-s
overflow_add-s c = omega (arith, (plan_formed _ _ c.requires.sound).head.majors, c.requires.stage)

pub parts_before-end-requires : goal.parts_before-end-requires
parts_before-end-requires c = omega (arith, (plan_formed _ _ c.requires.sound).head.majors, c.requires.stage)

pub loop-k-init : goal.loop-k-init
loop-k-init c = omega (arith, parts_are _ _ _ _ _ c.requires)

pub cell_at-p-requires : goal.cell_at-p-requires
cell_at-p-requires c =
    let inside : c.loop-k.k < parts_of c.args.d.now = omega (arith, end_in _ _ _ _ _ c.requires, c.parts_before-end.ensures.0) in
    cell_in _ _ c.requires.sound _ (inside) _ (omega arith)

pub cell_at-requires : goal.cell_at-requires
cell_at-requires c =
    let named : c.cell_at-p.result < parts_of c.args.d.now = omega (arith, c.cell_at-p.ensures, rank_in _ _ _ _ _ c.requires c.loop-k.k c.loop-k.auto.k (omega (arith, c.parts_before-end.ensures.0))) in
    cell_in _ _ c.requires.sound _ (named) _ (omega arith)

pub returns-then-cell_at-b : goal.returns-then-cell_at-b
returns-then-cell_at-b c =
    let block : c.cell_at.result ≡ cell_at c.args.room.now (ranked_at c.args.room.now c.loop-k.k) col.block = c.cell_at.ensures ∙ ap (λ (p : ℕ). cell_at c.args.room.now p col.block) c.cell_at-p.ensures in
    block_off _ _ _ _ _ c.requires c.loop-k.k c.loop-k.auto.k c.loop-k.invariant (λ e. c.if-cell_at-b.true (block ∙ e))

pub loop-k-preserved : goal.loop-k-preserved
loop-k-preserved c =
    let block : c.cell_at.result ≡ cell_at c.args.room.now (ranked_at c.args.room.now c.loop-k.k) col.block = c.cell_at.ensures ∙ ap (λ (p : ℕ). cell_at c.args.room.now p col.block) c.cell_at-p.ensures in
    block_on _ _ _ _ _ c.requires c.loop-k.k c.loop-k.auto.k (omega (arith, c.parts_before-end.ensures.0)) (sym (block) ∙ c.if-cell_at-b.false)

pub returns : goal.returns
returns c =
    omega (arith, to_in _ _ _ _ _ c.requires, c.parts_before-end.ensures.0, c.loop-k.invariant)
