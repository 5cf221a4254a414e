-- `repair_list::write_old` meets its contract. The loop's invariant: what is written from entry i on comes to the whole.
-- Assumes nothing.
use mathlib.Core.Path.{◌≡◌}
use Prim.Native.Nat.{◌*◌}
use lib.ListN.{length}
use lib.Seq.{sets}
use Rattle.repair_nodes.specs.CountList.{count_words}
use Rattle.repair_list.specs.Relist.{entries_in}
use Rattle.repair_list.proofs.RelistLaws.{entries_from}
use Rattle.repair_list.proofs.write_old.Given as goal

abbrev pub invariant-loop-i : goal.invariant-loop-i
invariant-loop-i l =
    (length l.after ≡ length l.initial.after)
    × (sets l.after (2 * l.i) (count_words (entries_from l.map l.counts l.i)) ≡ sets l.initial.after 0 (count_words (entries_in l.map l.counts)))
