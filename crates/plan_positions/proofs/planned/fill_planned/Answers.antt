-- The pins that are read, and then the entries put for them.
-- Assumes nothing.
use mathlib.Core.Path.{ap, ◌∙◌}
use mathlib.Core.List.{List}
use Prim.Native.Nat.{ℕ}
use Rattle.pinmap.specs.PinMap.{after_renewals}
use Rattle.plan_winners.specs.Winners.{winner_puts}
use Rattle.plan_positions.proofs.planned.fill_planned.Goals as goal

pub returns : goal.returns
returns c =
    c.fill_winners.ensures ∙ ap (λ (t : List ℕ). after_renewals t (winner_puts c.args.part.now.d.now)) c.fill_reads.ensures
