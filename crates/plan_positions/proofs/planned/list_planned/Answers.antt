-- The pins that are read, listed, and then the entries put for them.
-- Assumes nothing.
use mathlib.Core.Path.{ap, ◌∙◌}
use mathlib.Core.List.{List}
use Prim.Native.Nat.{ℕ}
use native.Mathlib.Omega.{arith}
use Rattle.pinmap.specs.PinMap.{after_renewals}
use Rattle.plan_record.proofs.RecordLaws.{lanes_range}
use Rattle.plan_winners.specs.Winners.{winner_puts}
use Rattle.plan_positions.proofs.planned.list_planned.Goals as goal

pub returns : goal.returns
returns c =
    record {
      value = (c.list_reads-n.ensures.value.0, omega (arith, c.list_reads-n.ensures.value.1, lanes_range c.args.part.now.d.now));
      table_after = c.fill_winners.ensures ∙ ap (λ (t : List ℕ). after_renewals t (winner_puts c.args.part.now.d.now)) c.list_reads-n.ensures.table_after;
      list_after = c.list_reads-n.ensures.list_after;
      all_pins = c.list_reads-n.ensures.all_pins;
    }
