-- After s major stages: the first part of the last of them that begins at p or before it, and the first part of the next one.
-- Assumes nothing.
use mathlib.Core.Path.{◌≡◌}
use Prim.Native.Nat.{◌*◌, ◌^◌, ◌≤◌}
use Rattle.plan_record.specs.Record.{parts_before}
use Rattle.plan_positions.specs.Positions.{major_to}
use Rattle.plan_positions.proofs.ranks.parts_earlier.Given as goal

abbrev pub invariant-loop-s : goal.invariant-loop-s
invariant-loop-s l = (l.first ≡ parts_before l.d (major_to l.d l.p l.s)) × (l.next ≡ parts_before l.d l.s) × (l.next ≤ 2 ^ 32 * l.s)
