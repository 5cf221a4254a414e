-- `run::left::turns_left` meets its contract. The invariant: the turns counted and those of the blocks from b on are all.
-- Assumes nothing.
use mathlib.Core.Path.{◌≡◌}
use Prim.Native.Nat.{◌+◌, ◌-◌}
use Rattle.run_machine.specs.Run.{all_left}
use Rattle.run.specs.States.{blocks_in}
use Rattle.run.proofs.left.turns_left.Given as goal

abbrev pub invariant-loop-b : goal.invariant-loop-b
invariant-loop-b l = l.sum + all_left l.script.lanes l.script.words.now (blocks_in l.script.lanes l.script.words.now l.room (l.blocks - l.b) l.b) ≡ all_left l.script.lanes l.script.words.now (blocks_in l.script.lanes l.script.words.now l.room l.blocks 0)
