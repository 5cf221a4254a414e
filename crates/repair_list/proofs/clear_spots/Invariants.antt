-- `repair_list::clear_spots` meets its contract. The loop's invariant: the spots from spot k on come to the whole.
-- Assumes nothing.
use mathlib.Core.Path.{◌≡◌}
use Prim.Native.Nat.{◌*◌}
use lib.ListN.{length, drop}
use Rattle.repair_nodes.specs.Stage.{spots_of, spots_stored, emptied}
use Rattle.repair_list.proofs.clear_spots.Given as goal

abbrev pub invariant-loop-k : goal.invariant-loop-k
invariant-loop-k l =
    (length l.slots ≡ length l.initial.slots) × (spots_stored l.slots (emptied (spots_of (drop (2 * l.k) l.spots))) ≡ spots_stored l.initial.slots (emptied (spots_of l.spots)))
