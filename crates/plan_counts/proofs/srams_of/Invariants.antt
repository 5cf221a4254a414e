-- The SRAMs found are those among the endpoints passed.
-- Assumes nothing.
use Rattle.std.proofs.Common.{◌≡◌, ◌≤◌}
use Rattle.plan_counts.proofs.PartCountLaws.{srams_to}
use Rattle.plan_counts.proofs.srams_of.Given as goal

abbrev pub invariant-loop-i : goal.invariant-loop-i
invariant-loop-i l = (l.found ≡ srams_to l.part.d.now l.part.p l.i) × (l.found ≤ l.i)
