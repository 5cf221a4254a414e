-- `try_size`: what is still to be placed, from the lanes as they stand, ends as the try does. In a piece: as it did at the piece's begin.
-- Assumes nothing.
use mathlib.Core.Path.{◌≡◌}
use Prim.Native.Nat.{◌*◌}
use lib.ListN.{drop}
use Rattle.std.specs.Prelude.{Ok}
use Rattle.reads.specs.ReadSet.{pairs_of}
use Rattle.reads_try.specs.LaneTable.{run_of}
use Rattle.reads_try.specs.Tries.{tried_of}
use Rattle.reads_try.proofs.TryLaws.{Held, Piece}
use Rattle.reads_try.proofs.try_size.Given as goal

abbrev pub invariant-pairs : goal.invariant-pairs
invariant-pairs l =
    (l.ending ≡ Ok tt) × Piece l.set l.lanes l.begin l.end l.initial.room l.initial.used l.initial.held l.initial.cur l.p l.room l.used l.held l.cur

abbrev pub invariant-pieces : goal.invariant-pieces
invariant-pieces l =
    (l.ending ≡ Ok tt)
    × Held l.set l.lanes (drop (32 * l.lanes) l.initial.room) (tried_of l.lanes l.k l.set l.keys) (run_of l.k (pairs_of l.set) (drop l.key-index l.keys)) l.room l.used l.held l.cur
