-- The sums so far: where the stages passed end, and how many of them end at or before the location.
-- Assumes nothing.
use mathlib.Core.Path.{◌≡◌}
use Prim.Native.Nat.{◌*◌, ◌≤◌}
use Rattle.words.specs.Sum.{sum_to}
use Rattle.plan_record.specs.Record.{stage_locations}
use Rattle.script.proofs.HeadLaws.{ended_by}
use Rattle.script.proofs.head.location_stage.Given as goal

abbrev pub invariant-loop-s : goal.invariant-loop-s
invariant-loop-s l =
    (l.end ≡ sum_to (stage_locations l.part.d.now l.part.p) l.s) × (l.end ≤ 4294967295 * l.s) × (l.ended ≡ ended_by l.part.d.now l.part.p l.l l.s) × (l.ended ≤ l.s)
