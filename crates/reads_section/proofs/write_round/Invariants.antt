-- `write_round`: the lanes from i on are still to be stored, from word 2i of the round on.
-- Assumes nothing.
use mathlib.Core.Path.{◌≡◌}
use Prim.Native.Nat.{◌+◌, ◌*◌}
use lib.ListN.{drop}
use lib.Seq.{sets}
use Rattle.reads.specs.ReadSection.{round_words}
use Rattle.reads_try.specs.TableLanes.{lanes_at}
use Rattle.reads_section.proofs.write_round.Given as goal

abbrev pub invariant-loop-i : goal.invariant-loop-i
invariant-loop-i l =
    sets l.out (l.at + 2 * l.i) (round_words (drop l.i (lanes_at l.set l.room l.lanes)) l.r) ≡ sets l.initial.out l.at (round_words (lanes_at l.set l.room l.lanes) l.r)
