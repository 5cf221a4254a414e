-- The invariant: the turns counted and those after the part at o are all.
-- Assumes nothing.
use Prim.Native.Nat.{◌-◌}
use lib.ListN.{length}
use Rattle.run.proofs.LeftLaws.{Walking}
use Rattle.run.proofs.left.turns_after.Given as goal

abbrev pub invariant-parts : goal.invariant-parts
invariant-parts l = Walking l.script.lanes l.script.words.now l.at l.o l.sum

abbrev pub decreases-parts : goal.decreases-parts
decreases-parts l = length l.script.words.now - l.o
