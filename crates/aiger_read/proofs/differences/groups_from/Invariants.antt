-- `aiger_read::differences::groups_from` meets its contract. The invariant: what is read so far, with the groups that are left at their scale, is the difference. Assumes nothing.
use Prim.Native.Nat.{◌+◌, ◌-◌, ◌≤◌}
use lib.ListN.{length}
use Rattle.aiger_read.proofs.GroupLaws.{Groups}
use Rattle.aiger_read.proofs.differences.groups_from.Given as goal

abbrev pub invariant-loop-k : goal.invariant-loop-k
invariant-loop-k l = (l.at + l.k ≤ length l.bytes) × Groups l.bytes l.at l.low l.value l.scale (l.at + l.k) (4 - l.k)
