-- `repair_list::write_new` meets its contract. The loop's invariant: what is written from new node k on comes to the whole.
-- Assumes nothing.
use mathlib.Core.Path.{◌≡◌}
use Prim.Native.Nat.{◌+◌, ◌*◌}
use lib.ListN.{length, drop}
use lib.Seq.{sets}
use Rattle.repair_nodes.specs.CountList.{count_words}
use Rattle.repair_list.specs.Relist.{entries_of}
use Rattle.repair_list.proofs.write_new.Given as goal

abbrev pub invariant-loop-k : goal.invariant-loop-k
invariant-loop-k l =
    (length l.after ≡ length l.initial.after)
    × (sets l.after (2 * (l.at + l.k)) (count_words (entries_of l.map (drop l.k l.news))) ≡ sets l.initial.after (2 * l.at) (count_words (entries_of l.map l.news)))
