-- The definition, with the place of the part heads as it is lent.
-- Assumes nothing.
use mathlib.Core.Path.{ap, ◌∙◌}
use Prim.Native.Nat.{ℕ, ◌+◌, ◌*◌}
use Rattle.plan_record.specs.Record.{part_head_words, word_at}
use Rattle.plan_record.proofs.numbers.stages_at.Goals as goal

pub returns : goal.returns
returns c = c.word_at.ensures ∙ ap (λ (b : ℕ). word_at c.args.d.now (b + part_head_words * c.args.p)) c.requires.0
