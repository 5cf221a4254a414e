-- `repair_tally::tally_down` meets its contract. The loop's invariant: the way from slot k on ends as the whole way does.
-- Assumes nothing.
use mathlib.Core.Path.{◌≡◌}
use lib.ListN.{length}
use Rattle.repair_tally.specs.Tally.{through, lowering, nodes_in}
use Rattle.repair_tally.proofs.TallyStepLaws.{nodes_from}
use Rattle.repair_tally.proofs.tally_down.Given as goal

abbrev pub invariant-loop-k : goal.invariant-loop-k
invariant-loop-k l =
    (length l.map ≡ length l.initial.map) × (through lowering l.map (nodes_from l.height l.spots l.k) ≡ through lowering l.initial.map (nodes_in l.height l.spots))
