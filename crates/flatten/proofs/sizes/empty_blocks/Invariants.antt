-- The loop's invariant: the empty blocks of the first s major stages.
-- Assumes nothing.
use mathlib.Core.Path.{◌≡◌}
use Prim.Native.Nat.{◌*◌, ◌≤◌}
use Rattle.script_assembly.specs.WrittenSoFar.{empty_blocks}
use Rattle.flatten.proofs.sizes.empty_blocks.Given as goal

abbrev pub invariant-loop-s : goal.invariant-loop-s
invariant-loop-s l = (l.sum ≡ empty_blocks l.d l.s) × (l.sum ≤ 4294967295 * l.s)
