-- `plan_reads::asked::entry_of` meets its contract: what a look into the table tells.
-- Assumes nothing.
use mathlib.Core.Path.{ap, ◌∙◌}
use Prim.Native.Nat.{ℕ}
use Rattle.std.specs.Prelude.{unwrap_or}
use Rattle.std.specs.declared.option.Option as code
use Rattle.pinmap.specs.PinMap.{look}
use Rattle.plan_reads.proofs.AskedLaws.{looked_or_zero}
use Rattle.plan_reads.proofs.asked.entry_of.Goals as goal

pub returns : goal.returns
returns c =
    c.unwrap_or.ensures ∙ ap (λ (o : code.Option ℕ). unwrap_or o 0) c.look_up.ensures ∙ looked_or_zero (look c.args.pins.now c.args.pin.0)
