-- `repair_list::write_left` meets its contract. The loop's invariant: what is written of the entries left from entry i on comes to the whole.
-- Assumes nothing.
use mathlib.Core.Path.{◌≡◌}
use Prim.Native.Nat.{◌+◌, ◌*◌}
use lib.ListN.{length}
use lib.Seq.{sets}
use Rattle.repair_nodes.specs.CountList.{count_words, nonzero}
use Rattle.repair_list.specs.Relist.{entries_in}
use Rattle.repair_list.proofs.RelistLaws.{left_from}
use Rattle.repair_list.proofs.write_left.Given as goal

abbrev pub invariant-loop-i : goal.invariant-loop-i
invariant-loop-i l =
    (length l.after ≡ length l.initial.after) × (l.n + length (left_from l.map l.counts l.i) ≡ length (nonzero (entries_in l.map l.counts)))
    × (sets l.after (2 * l.n) (count_words (left_from l.map l.counts l.i)) ≡ sets l.initial.after 0 (count_words (nonzero (entries_in l.map l.counts))))
