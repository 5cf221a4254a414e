-- `repair_tally::check_counts` meets its contract. The loop's invariant: the way from entry i on ends as the whole way does.
-- Assumes nothing.
use mathlib.Core.Path.{◌≡◌}
use Prim.Native.Nat.{◌*◌}
use lib.ListN.{length, drop}
use Rattle.repair_nodes.specs.CountList.{counts_of}
use Rattle.repair_tally.specs.Tally.{through, entering}
use Rattle.repair_tally.proofs.check_counts.Given as goal

abbrev pub invariant-loop-i : goal.invariant-loop-i
invariant-loop-i l =
    (length l.map ≡ length l.initial.map) × (through entering l.map (counts_of (drop (2 * l.i) l.counts)) ≡ through entering l.initial.map (counts_of l.counts))
