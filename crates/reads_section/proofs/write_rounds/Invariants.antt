-- `write_rounds`: the rounds from r on are still to be stored, from word 2·lanes·r on.
-- Assumes nothing.
use mathlib.Core.Path.{◌≡◌}
use Prim.Native.Nat.{◌*◌, ◌-◌}
use lib.Seq.{sets}
use Rattle.reads.specs.ReadSection.{rounds_from}
use Rattle.reads_try.specs.TableLanes.{lanes_at}
use Rattle.reads_section.proofs.write_rounds.Given as goal

abbrev pub invariant-loop-r : goal.invariant-loop-r
invariant-loop-r l =
    sets l.out (2 * l.lanes * l.r) (rounds_from (lanes_at l.set l.room l.lanes) (l.rounds - l.r) l.r) ≡ sets l.initial.out 0 (rounds_from (lanes_at l.set l.room l.lanes) l.rounds 0)
