-- `plan_record::numbers::gate_first` meets its contract: the definition, with the place where the gates begin as the code has it.
-- Assumes nothing.
use mathlib.Core.Path.{ap, ◌∙◌}
use Prim.Native.Nat.{ℕ, ◌+◌, ◌*◌}
use Rattle.plan_record.specs.Record.{word_at}
use Rattle.plan_record.proofs.numbers.gate_first.Goals as goal

pub returns : goal.returns
returns c =
    c.word_at.ensures ∙ ap (λ (i : ℕ). word_at c.args.d.now (i + 3 * c.args.g + 1)) c.gate_base.ensures.0
