-- The definition, with the place where the positions begin.
-- Assumes nothing.
use Rattle.std.proofs.Common.{ℕ, ◌+◌, ◌*◌, ap, ◌∙◌}
use Rattle.plan_record.specs.Record.{position_words, word_at}
use Rattle.plan_record.proofs.numbers.Positions.place.Goals as goal

pub returns : goal.returns
returns c = c.word_at.ensures ∙ ap (λ (b : ℕ). word_at c.args.self.now.d.now (b + position_words * c.args.i + 1)) c.args.self.now.begins.0
