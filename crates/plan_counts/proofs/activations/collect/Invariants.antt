-- The activations of the endpoints passed stand at the front of the keys.
-- Assumes nothing.
use Rattle.plan_counts.proofs.CollectLaws.{Collected}
use Rattle.plan_counts.proofs.activations.collect.Given as goal

abbrev pub invariant-loop-i : goal.invariant-loop-i
invariant-loop-i l = Collected l.part.d.now l.part.p l.i l.initial.keys l.keys l.n
