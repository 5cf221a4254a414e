-- The totals of a plan are sums of two columns of its part table.
-- Assumes nothing.
use mathlib.Core.Path.{◌≡◌, sym, ap, ap₂, ◌∙◌}
use mathlib.Core.List.{List}
use Prim.Native.Nat.{ℕ, ◌+◌, ◌*◌, ◌/◌, ◌≤◌, ◌<◌}
use native.Mathlib.Omega.{arith}
use Rattle.words.specs.Sum.{sum_to}
use Rattle.words.proofs.SumLaws.{sum_ext}
use Rattle.plan_record.specs.Record.{layout_of, majors_of, parts_of}
use Rattle.plan_record.proofs.PlanFormLaws.{formed}
use Rattle.plan_rows.specs.Columns as col
use Rattle.plan_rows.specs.Rows.{cell_at, ColumnIn}
use Rattle.plan_blocks.specs.Blocks.{state_of, sram_of, state_words, sram_words}
use Rattle.plan_blocks.specs.TableFill.{Tallied}
use Rattle.plan_blocks.proofs.TotalLaws.{sum_scale}

module _ (d room : List ℕ) (t : Tallied d room) where
  pub majors_few : majors_of d ≤ 64
  majors_few = (formed d t.ready.form).head.majors

  module _ (parts : ℕ) (all : parts ≡ parts_of d) where
    pub column_in : (k : ℕ) → k < 16 → ColumnIn room parts k
    column_in k l = record { few = omega (arith, (formed d t.ready.form).sizes.headed.parts); column = l; inside = omega (arith, t.ready.inside) }

    pub state_sum : (layout sum : ℕ) → layout ≡ layout_of d → sum ≡ sum_to (λ p. cell_at room p col.write_outs) parts → (layout + 31) / 32 + sum ≡ state_words d
    unfolding state_of
    state_sum layout sum l s =
        let e = ap (sum_to (λ p. cell_at room p col.write_outs)) all in
        ap₂ (λ (x y : ℕ). (x + 31) / 32 + y) l (s ∙ e ∙ sum_ext _ _ (parts_of d) (λ p u. (t.counted p u).write-outs))

    pub sram_sum : (sum : ℕ) → sum ≡ sum_to (λ p. cell_at room p col.srams) parts → 8192 * sum ≡ sram_words d
    unfolding sram_of
    sram_sum sum s =
        let e = ap (sum_to (λ p. cell_at room p col.srams)) all in
        ap (λ (x : ℕ). 8192 * x) (s ∙ e) ∙ sym (sum_scale 8192 _ (parts_of d)) ∙ sum_ext _ _ (parts_of d) (λ p u. ap (λ (x : ℕ). 8192 * x) (t.counted p u).sram-count)
