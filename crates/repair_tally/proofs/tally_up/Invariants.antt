-- `repair_tally::tally_up` meets its contract. The loop's invariant: the way from slot k on ends as the whole way does; no more nodes are new than slots were seen.
-- Assumes nothing.
use mathlib.Core.Path.{◌≡◌}
use mathlib.Core.List.{[]}
use Prim.Native.Nat.{◌≤◌}
use lib.ListN.{length, take}
use Rattle.repair_tally.specs.Tally.{through, raised, raising, nodes_in}
use Rattle.repair_tally.proofs.TallyStepLaws.{nodes_from}
use Rattle.repair_tally.proofs.tally_up.Given as goal

abbrev pub invariant-loop-k : goal.invariant-loop-k
invariant-loop-k l =
    (l.n ≤ l.k) × (l.n ≤ length l.fresh) × (length l.map ≡ length l.initial.map) × (length l.fresh ≡ length l.initial.fresh)
    × (through raising (raised l.map (take l.n l.fresh)) (nodes_from l.height l.spots l.k) ≡ through raising (raised l.initial.map []) (nodes_in l.height l.spots))
