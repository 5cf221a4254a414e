-- The gates before g have their values, and no other bit is set (`Stored`).
-- Assumes nothing.
use Rattle.std.proofs.Common.{length}
use Rattle.plan_gates.proofs.ValueCodeLaws.{Stored}
use Rattle.plan_gates.proofs.all_values.Given as goal

abbrev pub invariant-loop-g : goal.invariant-loop-g
invariant-loop-g l = Stored l.d l.known l.bits (length l.initial.bits) l.g
