-- The definition, with the place of the layout as it is lent.
-- Assumes nothing.
use mathlib.Core.Path.{ap, ◌∙◌}
use Prim.Native.Nat.{ℕ, ◌+◌}
use Rattle.plan_record.specs.Record.{word_at}
use Rattle.plan_record.proofs.numbers.layout_pin.Goals as goal

pub returns : goal.returns
returns c = c.word_at.ensures ∙ ap (λ (b : ℕ). word_at c.args.d.now (b + c.args.i)) c.requires.0
