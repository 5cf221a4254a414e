-- The table after i entries is that of the first i entries of the layout.
-- Assumes nothing.
use Rattle.std.proofs.Common.{◌≡◌}
use Rattle.pinmap.specs.PinMap.{after_renewals}
use Rattle.plan_winners.specs.Winners.{layout_puts}
use Rattle.plan_winners.proofs.fill_layout.Given as goal

abbrev pub invariant-loop-i : goal.invariant-loop-i
invariant-loop-i l = l.table ≡ after_renewals l.initial.table (layout_puts l.d l.i)
