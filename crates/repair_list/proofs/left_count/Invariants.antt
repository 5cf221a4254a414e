-- `repair_list::left_count` meets its contract. The loop's invariant: those counted, and those left from entry i on, are all.
-- Assumes nothing.
use mathlib.Core.Path.{◌≡◌}
use Prim.Native.Nat.{◌+◌, ◌≤◌}
use lib.ListN.{length}
use Rattle.repair_nodes.specs.CountList.{nonzero}
use Rattle.repair_list.specs.Relist.{entries_in}
use Rattle.repair_list.proofs.RelistLaws.{left_from}
use Rattle.repair_list.proofs.left_count.Given as goal

abbrev pub invariant-loop-i : goal.invariant-loop-i
invariant-loop-i l =
    (l.n ≤ l.i) × (l.n + length (left_from l.map l.counts l.i) ≡ length (nonzero (entries_in l.map l.counts)))
