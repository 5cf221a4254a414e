-- The body's endpoints begin where the definition says.
-- Assumes nothing.
use mathlib.Core.Path.{ap, ◌∙◌}
use Prim.Native.Nat.{ℕ, ◌+◌, ◌*◌}
use Rattle.plan_record.specs.Record.{endpoint_words, word_at}
use Rattle.plan_record.proofs.bodies.Part.endpoint_word.Goals as goal

pub returns : goal.returns
returns c =
    c.word_in.ensures ∙ ap (λ (x : ℕ). word_at c.args.self.now.d.now (x + endpoint_words * c.args.i + c.args.k)) c.args.self.now.of.place
