-- The loop's invariant: the ranks so far are the block's. The first rank of another block ends them, or the end of the major stage.
-- Assumes nothing.
use Prim.Native.Nat.{◌+◌, ◌≤◌}
use Rattle.script_assembly.specs.WrittenSoFar.{first_rank}
use Rattle.script_layout.proofs.placed.block_end.Given as goal

abbrev pub invariant-loop-k : goal.invariant-loop-k
invariant-loop-k l = l.k ≤ first_rank l.d l.s (l.b + 1)
