-- The table's words, over the plan's lanes.
-- Assumes nothing.
use Rattle.std.proofs.Common.{ℕ, ◌+◌, ◌*◌, ap, ◌∙◌}
use Rattle.plan_record.specs.Record.{table_at}
use Rattle.script_sections.proofs.sections.enable_words.Goals as goal

pub returns : goal.returns
returns c =
    let at = λ (k : ℕ) (n : ℕ). table_at c.args.part.now.d.now c.args.part.now.p (k * n + c.args.w) in
    let first = c.table_word.ensures ∙ ap (at 66) c.args.part.now.of.lanes in
    let second = c.table_word-2.ensures ∙ ap (at 67) c.args.part.now.of.lanes in
    let third = c.table_word-3.ensures ∙ ap (at 68) c.args.part.now.of.lanes in
    rw (first, second, third)
