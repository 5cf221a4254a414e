-- The table's words, over the plan's lanes.
-- Assumes nothing.
use Rattle.std.proofs.Common.{◌∷◌, [], ℕ, ◌+◌, ◌*◌, ap, ap₂, ◌∙◌}
use Rattle.plan_record.specs.Record.{table_at}
use Rattle.script_sections.proofs.sections.sram_words.Goals as goal

pub returns : goal.returns
returns c =
    let at = λ (k : ℕ) (n : ℕ). table_at c.args.part.now.d.now c.args.part.now.p (k * n + c.args.w) in
    ap₂ (λ (x : ℕ) (y : ℕ). x ∷ y ∷ 0 ∷ 0 ∷ []) (c.table_word.ensures ∙ ap (at 32) c.args.part.now.of.lanes) (c.table_word-2.ensures ∙ ap (at 33) c.args.part.now.of.lanes)
